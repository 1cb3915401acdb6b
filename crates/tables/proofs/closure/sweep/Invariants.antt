use Rattle.tables.proofs.Closing.{Swept}
use Rattle.tables.proofs.closure.sweep.Given as goal

abbrev pub invariant-loop-q : goal.invariant-loop-q
invariant-loop-q l = Swept l.rules l.initial.ahead l.q l.ahead l.more
