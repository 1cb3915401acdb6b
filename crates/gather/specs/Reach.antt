-- What a place reaches.
use Rattle.std.specs.Prelude.{◌≡◌, ℕ, ◌<◌, Bool, true, List, length, slice_index_or}

-- One step from i to t among n places: t stands in the list of i, at nr, and is one of the n places.
pub record Step (n : ℕ) (targets : ℕ → List ℕ) (i t : ℕ) : Type 0 where
  pub inside : t < n
  pub nr : ℕ
  pub listed : nr < length (targets i)
  pub there : slice_index_or (targets i) nr 0 ≡ t

-- Zero or more steps.
pub data Reaches (n : ℕ) (targets : ℕ → List ℕ) : ℕ → ℕ → Type 0 where
  here : {i : ℕ} → Reaches n targets i i
  step : {i t j : ℕ} → Step n targets i t → Reaches n targets t j → Reaches n targets i j

-- Some place that i reaches passes the test.
pub record ReachesSome (n : ℕ) (targets : ℕ → List ℕ) (i : ℕ) (test : ℕ → Bool) : Type 0 where
  pub place : ℕ
  pub reached : Reaches n targets i place
  pub passes : test place ≡ true
