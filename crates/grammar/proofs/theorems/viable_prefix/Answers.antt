-- What the stack spells is completed along an item of its top.
use Rattle.grammar.proofs.theorems.viable_prefix.Goals as goal
use Rattle.grammar.proofs.Lawful.{lawful_states}
use Rattle.grammar.proofs.Sentences.{begins_sentence}

pub returns-clause-theorem : goal.returns-clause-theorem
returns-clause-theorem c = λ G n A g p ws j ps τ x. begins_sentence g.valid (lawful_states G n A g.numbered) p ws j ps τ x
