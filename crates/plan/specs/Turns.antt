-- The turns of a plan: each of its five calls with the arguments and the answer.
use Rattle.std.specs.Prelude.{ℕ}
pub use Rattle.line.specs.Answers.{Answer, given, refused}

-- A slip: the designer of a judged line, and how many words and derivation steps the line has.
pub record SlipModel : Type 0 where
  pub designer : ℕ
  pub words : ℕ
  pub steps : ℕ

-- A word brought to a designer's line, answered by the number of reductions; a designer's line
-- judged, answered by a slip; a slip booked, answered by the count of booked lines; a slip
-- withdrawn; a designer's line cleared.
pub data Turn : Type 0 where
  word : ℕ → ℕ → Answer ℕ → Turn
  judge : ℕ → Answer SlipModel → Turn
  book : SlipModel → Answer ℕ → Turn
  withdraw : SlipModel → Answer (Unit {0}) → Turn
  clear : ℕ → Answer (Unit {0}) → Turn
