use Rattle.std.proofs.Common.{length}
use Rattle.tables.proofs.Closing.{Seeded}
use Rattle.tables.proofs.closure.waiting.Given as goal

abbrev pub invariant-loop-is_in : goal.invariant-loop-is_in
invariant-loop-is_in l = Seeded l.rules l.items (length l.yielded) l.ahead
