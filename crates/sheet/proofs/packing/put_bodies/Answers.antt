use Rattle.std.proofs.Common.{◌++◌, length, sym, ap, ◌∙◌, ap₂, arith}
use Rattle.std.proofs.lemmas.Slice.{take-put_mid}
use Rattle.sheet.proofs.Packs.{begins_more, bodies_more, bodies_within, length_read}
use Rattle.sheet.proofs.packing.put_bodies.Goals as goal

pub slice_bounds-put_body-end : goal.slice_bounds-put_body-end
slice_bounds-put_body-end g c =
    let G = g.S.RuleSheet.meaning c.args.sheet.now in
    let long = length_read G c.loop-i.i (omega arith) c.length.result _ c.length.ensures c.in-Some.is in
    omega (arith, bodies_within G c.loop-i.i (omega arith), long, c.loop-i.invariant.0)

pub loop-i-preserved : goal.loop-i-preserved
loop-i-preserved g c =
    let G = g.S.RuleSheet.meaning c.args.sheet.now in
    let inv = c.loop-i.invariant in
    let long = length_read G c.loop-i.i (omega arith) c.length.result _ c.length.ensures c.in-Some.is in
    let inside = bodies_within G c.loop-i.i (omega arith) in
    let more = begins_more G c.loop-i.i (omega arith) in
    let written = ap length c.put_body.ensures in (
      omega (arith, more, long, inv.0),
      take-put_mid c.loop-i.at _ c.loop-i.out c.put_body.new.out _ (omega (arith, written)) (omega (arith, inside, long, inv.0))
          ∙ ap₂ (λ xs ys. xs ++ ys) inv.1 c.put_body.ensures
          ∙ sym (bodies_more G c.loop-i.i (omega arith)),
    )
