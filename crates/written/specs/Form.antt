-- Which byte can stand where in a written sheet.
use Rattle.std.specs.Prelude.{ℕ, suc, ◌<◌, ◌≤◌, List, ◌++◌, length, take}
use Rattle.written.specs.Tokens.{Placed}
use Rattle.written.specs.Statements.{Statement, Written}

-- The text is a list of statements.
pub record WellFormed (text : List ℕ) : Type 0 where
  pub placed : List Placed
  pub statements : List Statement
  pub written : Written text placed statements

-- Some well-formed text begins with these bytes.
pub record Viable (bs : List ℕ) : Type 0 where
  pub rest : List ℕ
  pub well_formed : WellFormed (bs ++ rest)

-- The text is not well formed, and well-formed texts begin with its first p bytes, but none with one byte more. So p is the first byte that cannot stand there, or the text's length where it ends early.
pub record Misplaced (text : List ℕ) (p : ℕ) : Type 0 where
  pub ill_formed : WellFormed text → ⊥
  pub within : p ≤ length text
  pub viable : Viable (take p text)
  pub first : p < length text → Viable (take (suc p) text) → ⊥
