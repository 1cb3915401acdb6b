-- The causes exclude each other, and each tells one thing.
use Rattle.written.proofs.written.one_opening.Goals as goal
use Rattle.written.proofs.OneOpening.{one_opening}
use Rattle.std.proofs.Common.{refl}

pub returns : goal.returns
returns c = record { theorem = one_opening; answer = refl }
