use Rattle.std.proofs.Common.{rules, tests}
use Rattle.std.proofs.lemmas.Iterator.{first_from_Range}
use Rattle.tables.specs.CodeMarks.{Marked}
use Rattle.tables.specs.UsedMarks.{IsYes}
use Rattle.tables.proofs.UselessCodes.{first_unmarked}
use Rattle.tables.proofs.useful.lowest_unmarked.Goals as goal

pub returns : goal.returns
returns c =
    let productive = c.args.productive.now in
    let used = c.args.used.now in
    first_unmarked c.args.rules.now productive used c.find.result
    (first_from_Range _ _ _ _ (λ X. Marked productive X × IsYes used X → ⊥) (λ X. Marked productive X × IsYes used X) c.find.ensures.ran (λ x q h. search (rules, tests)) (λ x q h. search (rules, tests)))
