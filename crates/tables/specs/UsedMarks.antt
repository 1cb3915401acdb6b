-- Marks at the codes that the start uses.
use Rattle.std.specs.Prelude.{◌≡◌, ℕ, ◌+◌, ◌<◌, ◌≤◌, Bool, true, List, replicate, slice_index_or, slice_set}
use Rattle.gather.specs.declared.mark.Mark.{Mark}
use Rattle.gather.specs.Marks.{marked, no_mark}
use Rattle.grammar.specs.Grammar.{Grammar}
use Rattle.grammar.specs.Useful.{Used}
use Rattle.tables.specs.declared.rules.Rules.{Rules}
use Rattle.tables.specs.CodeMarks.{Marked}

-- The code has the mark yes.
abbrev pub IsYes : List Mark → ℕ → Type 0
IsYes marks X = marked (slice_index_or marks X no_mark) ≡ true

-- The marks are yes exactly at the codes reached from the start.
pub record UsedMarks (G : Grammar) (marks : List Mark) : Type 0 where
  pub sound : (X : ℕ) → IsYes marks X → Used G X
  pub whole : (X : ℕ) → Used G X → IsYes marks X

-- Yes at the start alone.
pub record StartYes (R : Rules) (marks : List Mark) : Type 0 where
  pub mark : Mark
  pub yes : marked mark ≡ true
  pub is : marks ≡ slice_set (replicate 88 no_mark) (R.terminals + 1) mark

-- The nonterminals below n are marked in both lists.
abbrev pub BothBelow : Rules → List Bool → List Mark → ℕ → Type 0
BothBelow R productive used n = (X : ℕ) → R.terminals < X → X < n → Marked productive X × IsYes used X

-- The lowest nonterminal that lacks one of the two marks.
pub record LowestUnmarked (R : Rules) (productive : List Bool) (used : List Mark) (X : ℕ) : Type 0 where
  pub low : R.terminals < X
  pub high : X ≤ R.terminals + R.nonterminals
  pub lacks : Marked productive X → IsYes used X → ⊥
  pub lower : BothBelow R productive used X
