-- Sets of items as lists of truth values, by item number: nine times the rule, and the dot.
use Rattle.std.specs.Prelude.{◌≡◌, ℕ, ◌+◌, ◌*◌, ◌<◌, ◌≤◌, Bool, true, false, ◌&&◌, List, get_or, replicate, nat_lt, slice_index, slice_index_or, slice_set}
use Rattle.grammar.specs.Grammar.{Grammar, IsRule, left_side, right_side}
use Rattle.grammar.specs.Items.{Items}

-- The set that a list stands for.
unfoldable pub items_of : List Bool → Items
items_of xs r d = nat_lt d 9 && slice_index_or xs (9 * r + d) false

-- The item of this number is in.
abbrev pub In : List Bool → ℕ → Type 0
In xs i = slice_index_or xs i false ≡ true

-- Rule 0 with the dot in front, alone.
unfoldable pub origin_list : List Bool
origin_list = slice_set (replicate 873 false) 0 true

-- A grammar's left sides by rule, and its codes behind the dots by item number, 0 where there is none.
pub record Laid (G : Grammar) (lefts codes : List ℕ) : Type 0 where
  pub left : (r : ℕ) → IsRule G r → slice_index lefts r ≡ left_side G r
  pub code : (r d : ℕ) → d < 9 → slice_index codes (9 * r + d) ≡ slice_index (right_side G r) d

module _ (lefts codes : List ℕ) (count : ℕ) where
  -- The items of a set completed, by number.
  pub data ClosureAt (xs : List Bool) : ℕ → Type 0 where
    given : {i : ℕ} → In xs i → ClosureAt xs i
    begun : {i q : ℕ} → ClosureAt xs i → 1 ≤ q → q ≤ count → slice_index codes i ≡ slice_index lefts q → ClosureAt xs (9 * q)

  -- The list ys is xs completed.
  pub record CompletesAt (xs ys : List Bool) : Type 0 where
    pub sound : (i : ℕ) → In ys i → ClosureAt xs i
    pub whole : (i : ℕ) → ClosureAt xs i → In ys i

-- The items of ys are those of xs with the dot before a code, with the dot put behind it.
pub record BehindAt (codes : List ℕ) (xs : List Bool) (X : ℕ) (ys : List Bool) : Type 0 where
  pub none : get_or ys 0 false ≡ false
  pub onto : (i : ℕ) → In xs i → slice_index codes i ≡ X → In ys (i + 1)
  pub from : (i : ℕ) → In ys (i + 1) → In xs i × (slice_index codes i ≡ X)

-- Some item of the list has its dot before the code.
pub record WaitsAt (codes : List ℕ) (xs : List Bool) (X : ℕ) : Type 0 where
  pub item : ℕ
  pub has : In xs item
  pub code : get_or codes item 0 ≡ X
