-- Visits in numbers.
use Rattle.std.proofs.Common.{◌≡◌, ℕ, ◌+◌, ◌<◌, ◌≤◌, min, ap, arith}
use Rattle.gather.specs.declared.visit.Visit.{Visit}
use Rattle.gather.specs.declared.visit.Visit.TheVariants.{Unseen, Open, Done}
use Rattle.gather.specs.Visits.{lower, rank}

pub rank_lower : (v w : Visit) → rank v ≤ 2305 → rank w ≤ 2305 → rank (lower v w) ≡ min (rank v) (rank w)
rank_lower Unseen w p q = omega arith
rank_lower (Open a) Unseen p q = omega arith
rank_lower (Open a) (Open b) p q = omega arith
rank_lower (Open a) Done p q = omega arith
rank_lower Done w p q = omega arith

pub rank_open : (v : Visit) (low : ℕ) → rank v ≡ low + 1 → low < 2304 → v ≡ Open low
rank_open Unseen low e l = absurd (omega arith)
rank_open (Open a) low e l = ap Open (omega arith)
rank_open Done low e l = absurd (omega arith)
