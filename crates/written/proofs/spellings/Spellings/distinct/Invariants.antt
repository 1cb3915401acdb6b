use Rattle.std.proofs.Common.{◌≡◌}
use Rattle.written.specs.Spelled.{bytes, spelled}
use Rattle.written.specs.Statements.{distinct}
use Rattle.written.proofs.spellings.Spellings.distinct.Given as goal

abbrev pub invariant-loop-spelling : goal.invariant-loop-spelling
invariant-loop-spelling g l = (goal.iterator-loop-spelling g).can_next l.spelling-iterator × (goal.iterator-loop-spelling g).is_finite l.spelling-iterator × (spelled l.out ≡ distinct (bytes l.yielded))
