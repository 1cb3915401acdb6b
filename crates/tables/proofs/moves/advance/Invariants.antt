use Rattle.tables.proofs.Moving.{Moving}
use Rattle.tables.proofs.moves.advance.Given as goal

abbrev pub invariant-loop-i : goal.invariant-loop-i
invariant-loop-i l = Moving l.rules l.items l.code l.i l.moved
