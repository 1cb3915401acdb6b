-- 97 reached sets would need 97 numbers below 96.
use Rattle.grammar.proofs.numbering.not_crowded.Goals as goal
use Rattle.grammar.proofs.NotCrowded.{not_crowded}

pub returns-clause-theorem : goal.returns-clause-theorem
returns-clause-theorem c = not_crowded
