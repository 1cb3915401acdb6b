use Rattle.tables.specs.IncludeSteps.{StepsUpto, order}
use Rattle.bounded.specs.BoundedList.{listed}
use Rattle.tables.proofs.includes.steps_by_state.Given as goal

abbrev pub invariant-loop-rule : goal.invariant-loop-rule
invariant-loop-rule l = StepsUpto l.machine.rules l.machine.states (order l.state l.rule 0) (listed l.steps)
