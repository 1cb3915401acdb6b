-- The run that accepts the sentence, cut behind the words.
use Rattle.grammar.proofs.theorems.taken.Goals as goal
use Rattle.grammar.proofs.Lawful.{lawful_states}
use Rattle.grammar.proofs.AcceptedPrefixes.{taken}

pub returns-clause-theorem : goal.returns-clause-theorem
returns-clause-theorem c = λ G n A g ws j w b. taken g.valid (lawful_states G n A g.numbered) ws j w b
