use Rattle.std.proofs.Common.{◌+◌, [], ◌∷◌, ◌++◌, length, take, sym, ap, ◌∙◌, arith}
use Rattle.std.proofs.lemmas.List.{take_more_set}
use Rattle.sheet.specs.Packing.{contents}
use Rattle.sheet.proofs.Packs.{begins_more, contents_more, length_read}
use Rattle.sheet.proofs.packing.put_contents.Goals as goal

pub loop-i-preserved : goal.loop-i-preserved
loop-i-preserved g c =
    let G = g.S.RuleSheet.meaning c.args.sheet.now in
    let inv = c.loop-i.invariant in
    let more = begins_more G c.loop-i.i (omega arith) in
    let long = length_read G c.loop-i.i (omega arith) c.length.result _ c.length.ensures c.in-Some.is in (
      omega (arith, more, long, inv.0),
      take_more_set c.loop-i.out c.loop-i.i c.loop-i.at (omega arith)
          ∙ ap (λ t. t ++ c.loop-i.at ∷ []) inv.1
          ∙ ap (λ at. contents (3 + length G.rules) (take c.loop-i.i G.rules) ++ at ∷ []) inv.0
          ∙ sym (contents_more G c.loop-i.i (omega arith)),
    )
