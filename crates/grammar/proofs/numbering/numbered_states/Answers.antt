-- Moves lead from states to states, and every state but the first is met at a lower one.
use Rattle.grammar.proofs.numbering.numbered_states.Goals as goal
use Rattle.grammar.proofs.ReachedSets.{numbered_states}

pub returns-clause-theorem : goal.returns-clause-theorem
returns-clause-theorem c = numbered_states
