-- Fingerprints of sets. Equal sets have equal ones, so that only sets with equal ones need be compared in full.
use Rattle.std.specs.Prelude.{◌≡◌, ℕ, zero, suc, ◌+◌, ◌*◌, ◌<◌, Bool, false, cond, List, length, slice_index, slice_index_or}
use Rattle.grammar.specs.StateLists.{state_at}

-- The sum of the cubes of the numbers below n that are in.
unfoldable pub cubes : ℕ → List Bool → ℕ
cubes zero xs = 0
cubes (suc n) xs = cond (slice_index_or xs n false) (n * n * n) 0 + cubes n xs

-- The fingerprints of the first n states, over the numbers below an end.
pub record Printed (end n : ℕ) (sets : List (List Bool)) (prints : List ℕ) : Type 0 where
  pub places : length prints ≡ 96
  pub each : (s : ℕ) → s < n → slice_index prints s ≡ cubes end (state_at sets s)
