use Rattle.gather.proofs.Tracing.{once}
use Rattle.gather.proofs.theorems.gathered_once.Goals as goal

pub returns-clause-theorem : goal.returns-clause-theorem
returns-clause-theorem g c =
    once g.J.Join.NONE g.J.Join.op
    (record { idem = g.met.J.Join.idem; comm = g.met.J.Join.comm; assoc = g.met.J.Join.assoc })
