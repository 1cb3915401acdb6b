use Rattle.std.proofs.Common.{◌≡◌, length}
use Rattle.tables.specs.ReadSteps.{FoundBelow}
use Rattle.tables.proofs.reads.find_leading.Given as goal

abbrev pub invariant-loop-state : goal.invariant-loop-state
invariant-loop-state l = (length l.found ≡ 96) × FoundBelow l.machine.rules l.machine.states l.null l.state l.found
