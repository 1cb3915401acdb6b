use Rattle.std.proofs.Common.{◌<◌, sym, ap, ◌∙◌, arith, below_more}
use Rattle.sheet.specs.Packs.{begins}
use Rattle.sheet.proofs.Packs.{begins_more, length_read, not_narrow, packed_length}
use Rattle.sheet.proofs.packing.packed_size.Goals as goal

pub returns-then-at-gt65535 : goal.returns-then-at-gt65535
returns-then-at-gt65535 g c = not_narrow (g.S.RuleSheet.meaning c.args.sheet.now) c.loop-i.i (omega arith) (omega (arith, c.loop-i.invariant.0))

pub loop-i-preserved : goal.loop-i-preserved
loop-i-preserved g c =
    let G = g.S.RuleSheet.meaning c.args.sheet.now in
    let more = begins_more G c.loop-i.i (omega arith) in
    let long = length_read G c.loop-i.i (omega arith) c.length.result _ c.length.ensures c.in_ok-length.was in
    (omega (arith, more, long, c.loop-i.invariant.0), below_more (λ j. begins G j < 65536) c.loop-i.i c.loop-i.invariant.1 (omega (arith, c.loop-i.invariant.0)))

pub returns : goal.returns
returns g c =
    let G = g.S.RuleSheet.meaning c.args.sheet.now in
    (c.loop-i.invariant.0 ∙ ap (begins G) (omega arith) ∙ sym (packed_length G), λ j h. c.loop-i.invariant.1 j (omega arith))
