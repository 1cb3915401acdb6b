use Rattle.std.proofs.Common.{◌≡◌, length}
use Rattle.tables.specs.Transitions.{DirectIn}
use Rattle.tables.specs.WordSets.{SetsOf}
use Rattle.tables.proofs.direct.direct_by_state.Given as goal

abbrev pub invariant-loop-state : goal.invariant-loop-state
invariant-loop-state l = (length l.words-items ≡ 96) × SetsOf (DirectIn l.machine.rules l.machine.states) l.state l.words-items
