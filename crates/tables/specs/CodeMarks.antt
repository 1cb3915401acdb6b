-- Marks by code, yes or no.
use Rattle.std.specs.Prelude.{◌≡◌, ℕ, Bool, true, false, List, slice_index_or}

-- The code is marked.
abbrev pub Marked : List Bool → ℕ → Type 0
Marked marks X = slice_index_or marks X false ≡ true

-- The marked codes are exactly those of which P holds.
pub record MarksOf (P : ℕ → Type 0) (marks : List Bool) : Type 0 where
  pub sound : (X : ℕ) → Marked marks X → P X
  pub whole : (X : ℕ) → P X → Marked marks X
