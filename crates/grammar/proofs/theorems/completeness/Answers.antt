-- The machine follows the tree, since the numbered states keep the laws.
use Rattle.grammar.proofs.theorems.completeness.Goals as goal
use Rattle.grammar.proofs.Lawful.{lawful_states}
use Rattle.grammar.proofs.FollowedTrees.{complete}

pub returns-clause-theorem : goal.returns-clause-theorem
returns-clause-theorem c = λ G n A g ws ps f. complete g.valid (lawful_states G n A g.numbered) f
