-- What is taken is a viable prefix; and the machine goes along with a sentence that begins so.
use Rattle.grammar.proofs.theorems.word_taken.Goals as goal
use Rattle.grammar.proofs.Lawful.{lawful_states}
use Rattle.grammar.proofs.OpenLines.{standing, standing_taken}
use Rattle.grammar.proofs.TakenWords.{taken_begins, begins_taken}

pub returns-clause-theorem : goal.returns-clause-theorem
returns-clause-theorem c =
    λ G n A cells g p exact l w x h few.
    let L = lawful_states G n A g.numbered in
    (λ y. taken_begins g.valid L p cells exact l y.0 w (standing_taken G A cells exact w (standing G A cells exact x) y.1) y.1, begins_taken g.valid L cells exact l w (standing G A cells exact x) h few)
