-- Derivations and trees are the same lists of rules, one reversed.
use Rattle.grammar.proofs.theorems.postorder.Goals as goal
use Rattle.grammar.proofs.Sentences.{postorder}

pub returns-clause-theorem : goal.returns-clause-theorem
returns-clause-theorem c = λ G v ds ws. postorder v ds ws
