-- Lists of one value.
use Rattle.std.proofs.Common.{◌≡◌, ℕ, zero, suc, get_or, replicate, refl}

-- The value stands at every place, and past the end where it is the default.
pub replicate_at : {A : Type 0} (x : A) (n i : ℕ) → get_or (replicate n x) i x ≡ x
replicate_at x zero i = refl
replicate_at x (suc n) zero = refl
replicate_at x (suc n) (suc i) = replicate_at x n i
