-- What a plan stands for, and the turns that its calls are.
use Rattle.std.specs.Prelude.{◌≡◌, ℕ, List, [], ◌∷◌, Ok, Err, Result}
use Rattle.tables.specs.declared.tables.Tables.{Tables}
use Rattle.line.specs.Answers.{answer_of}
use Rattle.line.specs.declared.turn_refusal.TurnRefusal.{TurnRefusal}
use Rattle.plan.specs.Turns.{SlipModel, Turn, word, judge, book, withdraw, clear}
use Rattle.plan.specs.Slips.{unhanded}
use Rattle.plan.specs.Model.{Model}
use Rattle.plan.specs.Steps.{BookStepped, book_step}
use Rattle.tables.specs.Building.{held}

-- A plan by its tables, its book, and its lines with the count of booked ones.
pub record PlanValue (B : Type 0) : Type 0 where
  pub tables : Tables
  pub book : B
  pub model : Model

-- The tables and the book are the same.
abbrev pub SameBook : {B : Type 0} → PlanValue B → PlanValue B → Type 0
SameBook p q = (q.tables ≡ p.tables) × (q.book ≡ p.book)

-- Booking the judged line of a designer, by what is free in the plan's book.
abbrev pub booking : {B : Type 0} → (B → ℕ) → PlanValue B → ℕ → BookStepped
booking free p d = book_step (held p.tables) p.model (free p.book) d

-- A booking done adds the step's numbers to the book, in the book's own way to grow; a refused one
-- leaves it the same.
abbrev pub BookGrows : {C B E : Type 0}
    → (C → List ℕ → C → Type 0)
    → C
    → List ℕ
    → Result B E
    → C
    → Type 0
BookGrows grows b numbers (Ok x) b' = grows b numbers b'
BookGrows grows b numbers (Err e) b' = b' ≡ b

-- The calls as turns, with their answers.
abbrev pub word_made : ℕ → ℕ → Result ℕ TurnRefusal → List Turn
word_made d w r = word d w (answer_of r) ∷ []

abbrev pub judge_made : ℕ → Result SlipModel TurnRefusal → List Turn
judge_made d r = judge d (answer_of r) ∷ []

abbrev pub book_made : SlipModel → Result ℕ (TurnRefusal × SlipModel) → List Turn
book_made s r = book s (answer_of (unhanded r)) ∷ []

abbrev pub withdraw_made : SlipModel → Result (Unit {0}) (TurnRefusal × SlipModel) → List Turn
withdraw_made s r = withdraw s (answer_of (unhanded r)) ∷ []

abbrev pub clear_made : ℕ → Result (Unit {0}) TurnRefusal → List Turn
clear_made d r = clear d (answer_of r) ∷ []
