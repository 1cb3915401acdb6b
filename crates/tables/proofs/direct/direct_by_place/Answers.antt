use Rattle.std.proofs.Common.{refl, ◌∙◌, subst, arith}
use Rattle.std.proofs.lemmas.List.{length-set}
use Rattle.tables.specs.Transitions.{DirectAt}
use Rattle.tables.specs.WordSets.{SetsOf}
use Rattle.tables.proofs.WordSets.{sets_none, sets_more}
use Rattle.tables.proofs.DirectWords.{behind_below}
use Rattle.tables.proofs.direct.direct_by_place.Goals as goal

pub loop-place-init : goal.loop-place-init
loop-place-init c = (refl, sets_none _ _)

pub loop-place-preserved : goal.loop-place-preserved
loop-place-preserved c =
    let m = c.args.machine.now in
    let l = c.loop-place.words-items in
    let i = c.loop-place.place in
    (length-set l i c.direct_behind.result ∙ c.loop-place.invariant.0, sets_more (DirectAt m.rules m.states) l i 64 c.direct_behind.result (omega (arith, c.loop-place.invariant.0, c.loop-place-test.true)) (λ w d. omega (arith, behind_below m.rules m.states i w d, m.rules.terminals63)) c.loop-place.invariant.1 c.direct_behind.ensures)

pub returns : goal.returns
returns c =
    let m = c.args.machine.now in
    subst (λ n. SetsOf (DirectAt m.rules m.states) n c.loop-place.words-items) (omega (arith, c.loop-place-test.false, c.loop-place.auto.place-end)) c.loop-place.invariant.1
