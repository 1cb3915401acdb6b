-- Calls that make turns, one behind another.
use Rattle.std.specs.Prelude.{◌≡◌, ℕ, List}
use Rattle.plan.specs.Turns.{Turn}
use Rattle.plan.specs.Plans.{PlanValue}
use Rattle.plan.specs.LawKept.{LawKept}

-- The book grew by some numbers, in its own way to grow.
abbrev pub Grown : {B : Type 0} → (B → List ℕ → B → Type 0) → B → B → Type 0
Grown grows b c = (numbers : List ℕ) × grows b numbers c

-- A call that makes a list of turns, keeps the law, and leaves a book that grew.
pub record Made {B : Type 0} (list : B → List ℕ) (free : B → ℕ) (grows : B → List ℕ → B → Type 0)
    (P : List Turn → Type 0) (p q : PlanValue B) : Type 0 where
  pub turns : List Turn
  pub are : P turns
  pub law : LawKept list free p turns q
  pub grown : Grown grows p.book q.book
  pub tables : q.tables ≡ p.tables
