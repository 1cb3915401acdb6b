use Rattle.gather.proofs.Tracing.{marks_reached}
use Rattle.gather.proofs.theorems.marks_reached.Goals as goal

pub returns-clause-theorem : goal.returns-clause-theorem
returns-clause-theorem c = marks_reached
