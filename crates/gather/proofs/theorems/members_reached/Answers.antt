use Rattle.gather.proofs.Tracing.{members_reached}
use Rattle.gather.proofs.theorems.members_reached.Goals as goal

pub returns-clause-theorem : goal.returns-clause-theorem
returns-clause-theorem c = members_reached
