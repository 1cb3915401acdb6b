-- Codes that derive lists of the first words, and the rounds over the rules that find them.
use Rattle.std.specs.Prelude.{◌≡◌, ℕ, ◌<◌, ◌≤◌, Bool, false, List, All, slice_index, slice_index_or}
use Rattle.std.specs.List.{AllByRecursion}
use Rattle.grammar.specs.Grammar.{Grammar}
use Rattle.grammar.specs.Trees.{Tree}
use Rattle.tables.specs.declared.rules.Rules.{Rules}
use Rattle.tables.specs.Arrays.{codes_at}
use Rattle.tables.specs.CodeMarks.{Marked, MarksOf}

-- The code derives a list of words that are at most n.
pub record DerivesWords (G : Grammar) (n X : ℕ) : Type 0 where
  pub words : List ℕ
  pub rules : List ℕ
  pub low : AllByRecursion (λ w. w ≤ n) words
  pub tree : Tree G X words rules

-- The codes from 1 to below n are marked.
abbrev pub MarksBelow : ℕ → List Bool → Type 0
MarksBelow n marks = MarksOf (λ X. (1 ≤ X) × (X < n)) marks

-- Every code on the right of the rule is marked.
abbrev pub RightMarked : Rules → List Bool → ℕ → Type 0
RightMarked R marks r = All (Marked marks) (codes_at R r)

-- The rule's right side is marked, and its left side is not.
pub record Lacks (R : Rules) (marks : List Bool) (r : ℕ) : Type 0 where
  pub low : 1 ≤ r
  pub high : r ≤ R.count
  pub right : RightMarked R marks r
  pub left : slice_index_or marks (slice_index R.left r) false ≡ false

-- No rule below n has its right side marked and not its left side.
abbrev pub NoneLacks : Rules → List Bool → ℕ → Type 0
NoneLacks R marks n = (r : ℕ) → 1 ≤ r → r < n → RightMarked R marks r → Marked marks (slice_index R.left r)
