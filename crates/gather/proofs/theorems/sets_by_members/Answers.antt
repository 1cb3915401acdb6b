use Rattle.gather.specs.Sets.{by_members}
use Rattle.gather.proofs.theorems.sets_by_members.Goals as goal

pub returns-clause-theorem : goal.returns-clause-theorem
returns-clause-theorem c = by_members
