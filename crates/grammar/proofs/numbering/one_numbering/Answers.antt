-- State by state, what one numbering meets first the other does not meet later.
use Rattle.grammar.proofs.numbering.one_numbering.Goals as goal
use Rattle.grammar.proofs.OneNumbering.{one_numbering}

pub returns-clause-theorem : goal.returns-clause-theorem
returns-clause-theorem c = one_numbering
