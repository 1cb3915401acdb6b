-- Both ways between the function on forms and the steps.
use Rattle.grammar.proofs.theorems.stepwise.Goals as goal
use Rattle.grammar.proofs.FormSteps.{derived, derives}

pub returns-clause-theorem : goal.returns-clause-theorem
returns-clause-theorem c = λ G v ds form ws. (derived G ds form ws, derives G v)
