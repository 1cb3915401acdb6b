use Rattle.tables.proofs.Closing.{Filled}
use Rattle.tables.proofs.closure.complete.Given as goal

abbrev pub invariant-loop-q : goal.invariant-loop-q
invariant-loop-q l = Filled l.rules l.initial.items l.q l.items
