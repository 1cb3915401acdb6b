-- Both sides compute.
use Rattle.std.proofs.Common.{refl}
use Rattle.plan.proofs.worked.worked_entry.Goals as goal

pub returns : goal.returns
returns c = record { theorem = λ G n A cells states. (refl, refl); answer = refl }
