-- All derivations of the words are the one list of rules with which the machine accepts them.
use Rattle.grammar.proofs.theorems.unambiguity.Goals as goal
use Rattle.grammar.proofs.Lawful.{lawful_states}
use Rattle.grammar.proofs.Sentences.{one_derivation}

pub returns-clause-theorem : goal.returns-clause-theorem
returns-clause-theorem c = λ G n A g free ws ds es d e. one_derivation g.valid (lawful_states G n A g.numbered) free ws ds es d e
