-- How far a sheet is read into arrays.
use Rattle.std.specs.Prelude.{◌≡◌, ℕ, suc, ◌+◌, ◌*◌, ◌<◌, ◌≤◌, List, length, Ok, Err, Result, slice_index}
use Rattle.grammar.specs.Grammar.{Grammar, left_side, right_side}
use Rattle.grammar.specs.Outcome.{Within, InRange}
use Rattle.tables.specs.declared.build_refusal.BuildRefusal.{BuildRefusal}
use Rattle.tables.specs.Admitted.{Unread}
use Rattle.tables.specs.BuildRefusals.{told}

-- The lengths of the right sides of the rules below n, each at most 8, and 0 from there on.
pub record Lengths (G : Grammar) (n : ℕ) (size : List ℕ) : Type 0 where
  pub places : length size ≡ 97
  pub below : (r : ℕ) → r < n → slice_index size r ≡ length (right_side G r)
  pub short : (r : ℕ) → r < n → slice_index size r ≤ 8
  pub rest : (r : ℕ) → n ≤ r → slice_index size r ≡ 0

-- The lengths of all right sides, or the sheet is not read.
abbrev pub Measured : Grammar → Result (List ℕ) BuildRefusal → Type 0
Measured G (Ok size) = Within G × Lengths G (suc (length G.rules)) size
Measured G (Err e) = Unread G (told e)

-- Both sides of the rules below n, all in range, and 0 from there on.
pub record Sides (G : Grammar) (n : ℕ) (left right : List ℕ) : Type 0 where
  pub left_places : length left ≡ 97
  pub right_places : length right ≡ 873
  pub lefts : (r : ℕ) → r < n → slice_index left r ≡ left_side G r
  pub lefts_rest : (r : ℕ) → n ≤ r → slice_index left r ≡ 0
  pub codes : (r d : ℕ) → r < n → d < 9 → slice_index right (9 * r + d) ≡ slice_index (right_side G r) d
  pub codes_rest : (i : ℕ) → 9 * n ≤ i → slice_index right i ≡ 0
  pub in_range : (r : ℕ) → 1 ≤ r → r < n → InRange G r
