use Rattle.tables.specs.Closing.{Grown, falses}
use Rattle.tables.proofs.closure.ahead_of.Given as goal

abbrev pub invariant-loop : goal.invariant-loop
invariant-loop l = Grown l.rules l.items l.ahead

abbrev pub decreases-loop : goal.decreases-loop
decreases-loop l = falses l.ahead
