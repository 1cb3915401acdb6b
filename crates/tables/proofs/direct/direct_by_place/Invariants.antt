use Rattle.std.proofs.Common.{◌≡◌, length}
use Rattle.tables.specs.Transitions.{DirectAt}
use Rattle.tables.specs.WordSets.{SetsOf}
use Rattle.tables.proofs.direct.direct_by_place.Given as goal

abbrev pub invariant-loop-place : goal.invariant-loop-place
invariant-loop-place l = (length l.words-items ≡ 2304) × SetsOf (DirectAt l.machine.rules l.machine.states) l.place l.words-items
