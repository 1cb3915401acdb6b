-- Every numbering keeps the laws.
use Rattle.grammar.proofs.numbering.lawful_states.Goals as goal
use Rattle.grammar.proofs.Lawful.{lawful_states}

pub returns-clause-theorem : goal.returns-clause-theorem
returns-clause-theorem c = lawful_states
