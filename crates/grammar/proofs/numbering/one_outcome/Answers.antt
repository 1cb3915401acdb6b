-- The causes exclude each other, and each tells one thing.
use Rattle.grammar.proofs.numbering.one_outcome.Goals as goal
use Rattle.grammar.proofs.OneOutcome.{one_outcome}

pub returns-clause-theorem : goal.returns-clause-theorem
returns-clause-theorem c = one_outcome
