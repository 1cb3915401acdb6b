-- The codes of the right side were put on last, and the rule began in the state below them.
use Rattle.grammar.proofs.theorems.never_stuck.Goals as goal
use Rattle.grammar.proofs.Lawful.{lawful_states}
use Rattle.grammar.proofs.SpelledStacks.{stands_at, can_reduce}

pub returns-clause-theorem : goal.returns-clause-theorem
returns-clause-theorem c = λ G n A g ws j ps σ s w r x h. let L = lawful_states G n A g.numbered in can_reduce L (stands_at L ws x).spells h
