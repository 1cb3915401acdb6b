use Rattle.std.proofs.Common.{take}
use Rattle.book.proofs.entry.enter.Given as goal

abbrev pub invariant-loop-number : goal.invariant-loop-number
invariant-loop-number g l = g.B.Book.grows l.initial.book (take l.number-index l.numbers) l.book
