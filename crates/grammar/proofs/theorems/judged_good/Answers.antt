-- The machine at the end mark goes along with the one derivation of the words.
use Rattle.grammar.proofs.theorems.judged_good.Goals as goal
use Rattle.grammar.proofs.Lawful.{lawful_states}
use Rattle.grammar.proofs.OpenLines.{standing}
use Rattle.grammar.proofs.JudgedLines.{judged_short, short_judged}

pub returns-clause-theorem : goal.returns-clause-theorem
returns-clause-theorem c =
    λ G n A cells g exact l x.
    let L = lawful_states G n A g.numbered in
    let st = standing G A cells exact x in
    (λ y. judged_short g.valid L cells exact l st y.0 y.1, short_judged g.valid L cells exact l st)
