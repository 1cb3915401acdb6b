use Rattle.examples.proofs.worked_examples.Goals as goal
use Rattle.examples.proofs.Shown.{worked}

pub returns-clause-worked : goal.returns-clause-worked
returns-clause-worked c = worked
