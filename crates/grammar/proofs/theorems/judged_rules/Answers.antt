-- The machine accepts the words with the rules noted.
use Rattle.grammar.proofs.theorems.judged_rules.Goals as goal
use Rattle.grammar.proofs.Lawful.{lawful_states}
use Rattle.grammar.proofs.OpenLines.{standing}
use Rattle.grammar.proofs.JudgedLines.{judged_rules}

pub returns-clause-theorem : goal.returns-clause-theorem
returns-clause-theorem c = λ G n A cells g exact l m x e. judged_rules g.valid (lawful_states G n A g.numbered) cells exact l (standing G A cells exact x) m e
