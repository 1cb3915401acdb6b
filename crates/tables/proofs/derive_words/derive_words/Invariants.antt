use Rattle.tables.specs.Closing.{falses}
use Rattle.tables.proofs.DerivingRounds.{Sofar}
use Rattle.tables.proofs.derive_words.derive_words.Given as goal

abbrev pub invariant-loop-r : goal.invariant-loop-r
invariant-loop-r l = Sofar l.rules l.words l.marks

abbrev pub decreases-loop-r : goal.decreases-loop-r
decreases-loop-r l = falses l.marks
