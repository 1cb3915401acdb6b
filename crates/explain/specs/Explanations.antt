-- What is said of a sheet that does not open.
use Rattle.std.specs.Prelude.{ℕ, ◌<◌, ◌≤◌, List, ◌++◌, codes, length}
use Rattle.grammar.specs.Refusals.{Told}
use Rattle.written.specs.WrittenRefusals.{form_told, limits_told}
use Rattle.explain.specs.declared.explanation.Explanation.{Explanation}
use Rattle.explain.specs.declared.explanation.Explanation.TheVariants.{Unfinished, Misplaced, Limits}
use Rattle.explain.specs.Positions.{position_of, position_text}

-- How what a refusal tells is explained: 2 with its place, which may be the text's end, and 3.
pub data Explains (text : List ℕ) : Told → Explanation → Type 0 where
  misplaced : {place : ℕ}
      → place < length text
      → Explains text (form_told place) (Misplaced (position_of text place))
  unfinished : {place : ℕ} → length text ≤ place → Explains text (form_told place) Unfinished
  limits : Explains text limits_told Limits

abbrev pub explanation_text : Explanation → List ℕ
explanation_text Unfinished = codes "the sheet ends before its last statement does"
explanation_text (Misplaced position) = position_text position ++ codes ": this cannot stand here, or it is a name that no statement begins with"
explanation_text Limits = codes "a sheet has 1 to 63 words, 1 to 24 phrase kinds and 1 to 96 rules, and at most 8 codes on a right side"
