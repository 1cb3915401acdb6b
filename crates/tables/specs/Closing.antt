-- How far a set of items is completed. A list of truth values by code, here called ahead, says which codes stand behind dots.
use Rattle.std.specs.Prelude.{◌≡◌, ℕ, suc, ◌*◌, ◌<◌, ◌≤◌, Bool, true, false, List, [], ◌∷◌, slice_index, slice_index_or}
use Rattle.grammar.specs.ItemLists.{In, ClosureAt, WaitsAt}
use Rattle.tables.specs.declared.rules.Rules.{Rules}

-- The codes behind the dots of a set; code 0 may stand for an item with its dot at the end.
pub record Waiting (R : Rules) (xs ahead : List Bool) : Type 0 where
  pub from : (X : ℕ) → In ahead X → WaitsAt R.right xs X
  pub onto : (X : ℕ) → 1 ≤ X → WaitsAt R.right xs X → In ahead X

-- A code behind a dot of the set completed.
pub record Ahead (R : Rules) (xs : List Bool) (X : ℕ) : Type 0 where
  pub item : ℕ
  pub has : ClosureAt R.left R.right R.count xs item
  pub code : slice_index_or R.right item 0 ≡ X

-- All codes behind dots of the set, and only such as are behind dots of the set completed.
pub record Grown (R : Rules) (xs ahead : List Bool) : Type 0 where
  pub sound : (X : ℕ) → In ahead X → Ahead R xs X
  pub base : (X : ℕ) → 1 ≤ X → WaitsAt R.right xs X → In ahead X

-- Each rule below n whose left side is ahead has its first code ahead.
abbrev pub Full : Rules → List Bool → ℕ → Type 0
Full R ahead n = (q : ℕ) → 1 ≤ q → q < n → In ahead (slice_index R.left q) → In ahead (slice_index R.right (9 * q))

-- How many codes are not ahead.
abbrev pub falses : List Bool → ℕ
falses [] = 0
falses (true ∷ xs) = falses xs
falses (false ∷ xs) = suc (falses xs)
