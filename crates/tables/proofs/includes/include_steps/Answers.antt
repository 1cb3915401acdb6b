use Rattle.std.proofs.Common.{length, ap, ◌≡◌, subst, arith}
use Rattle.bounded.specs.BoundedList.{listed}
use Rattle.tables.specs.IncludeSteps.{StepsUpto, order}
use Rattle.tables.proofs.IncludeSteps.{no_steps, all_steps}
use Rattle.tables.proofs.includes.include_steps.Goals as goal

pub loop-state-init : goal.loop-state-init
loop-state-init c = no_steps _ _ _ (ap length c.requires.none)

pub returns : goal.returns
returns c =
    let R = c.args.machine.now.rules in
    let S = c.args.machine.now.states in
    all_steps R S (listed c.loop-state.steps) (subst (λ n. StepsUpto R S (order n 1 0) (listed c.loop-state.steps)) (let e : c.loop-state.state ≡ S.count = omega (arith, c.loop-state-test.false, c.loop-state.auto.state-end) in e) c.loop-state.invariant)
