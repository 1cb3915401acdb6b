use Rattle.tables.specs.IncludeSteps.{StepsUpto, order}
use Rattle.bounded.specs.BoundedList.{listed}
use Rattle.tables.proofs.includes.include_steps.Given as goal

abbrev pub invariant-loop-state : goal.invariant-loop-state
invariant-loop-state l = StepsUpto l.machine.rules l.machine.states (order l.state 1 0) (listed l.steps)
