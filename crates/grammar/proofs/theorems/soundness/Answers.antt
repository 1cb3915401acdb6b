-- The stack spells codes that derive the words taken.
use Rattle.grammar.proofs.theorems.soundness.Goals as goal
use Rattle.grammar.proofs.Lawful.{lawful_states}
use Rattle.grammar.proofs.Sentences.{derivation_accepted}

pub returns-clause-theorem : goal.returns-clause-theorem
returns-clause-theorem c = λ G n A g ws ps x. derivation_accepted g.valid (lawful_states G n A g.numbered) ws ps x
