use Rattle.std.proofs.Common.{refl, ◌∙◌, subst, arith}
use Rattle.std.proofs.lemmas.List.{length-set}
use Rattle.tables.specs.Transitions.{DirectIn}
use Rattle.tables.specs.WordSets.{SetsOf}
use Rattle.tables.proofs.WordSets.{sets_none, sets_more}
use Rattle.tables.proofs.DirectWords.{direct_below}
use Rattle.tables.proofs.direct.direct_by_state.Goals as goal

pub loop-state-init : goal.loop-state-init
loop-state-init c = (refl, sets_none _ _)

pub loop-state-preserved : goal.loop-state-preserved
loop-state-preserved c =
    let m = c.args.machine.now in
    let l = c.loop-state.words-items in
    let i = c.loop-state.state in
    (length-set l i c.direct_words.result ∙ c.loop-state.invariant.0, sets_more (DirectIn m.rules m.states) l i 64 c.direct_words.result (omega (arith, c.loop-state.invariant.0, c.loop-state-test.true)) (λ w d. omega (arith, direct_below m.rules m.states i w d, m.rules.terminals63)) c.loop-state.invariant.1 c.direct_words.ensures)

pub returns : goal.returns
returns c =
    let m = c.args.machine.now in
    subst (λ n. SetsOf (DirectIn m.rules m.states) n c.loop-state.words-items) (omega (arith, c.loop-state-test.false, c.loop-state.auto.state-end)) c.loop-state.invariant.1
