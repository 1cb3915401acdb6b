-- Each word and each rule puts one state on.
use Rattle.grammar.proofs.theorems.depth.Goals as goal
use Rattle.grammar.proofs.OpenLines.{standing, states_of}

pub returns-clause-theorem : goal.returns-clause-theorem
returns-clause-theorem c = λ G A cells exact l x. let st = standing G A cells exact x in (st.few_words, st.few_rules, states_of l st)
