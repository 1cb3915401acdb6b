-- What booking a designer's line leaves of line, plan and book.
use Rattle.std.specs.Prelude.{◌≡◌, ℕ, ◌<◌, true, List, Ok, Err, Result}
use Rattle.book.specs.Books.{Entered}
use Rattle.tables.specs.Building.{held}
use Rattle.tables.specs.Held.{Held}
use Rattle.line.specs.Answers.{given}
use Rattle.line.specs.Steps.{done, refused}
use Rattle.line.specs.TurnRefusals.{told}
use Rattle.line.specs.declared.turn_refusal.TurnRefusal.{TurnRefusal}
use Rattle.plan.specs.Turns.{SlipModel}
use Rattle.plan.specs.Model.{Model, PlanLine, plan_line}
use Rattle.plan.specs.Steps.{entry_on, book_on, not_booking}
use Rattle.plan.specs.Plans.{PlanValue, booking}
use Rattle.plan.specs.Lent.{IsHolding}

-- The slip's designer has a judged line.
pub record SlipWaits (h : Held) (m : Model) (s : SlipModel) : Type 0 where
  pub tables : IsHolding h
  pub designer : s.designer < 8
  pub judged : (plan_line m s.designer).judged ≡ true

-- A slip just given out waits to be booked or withdrawn.
abbrev pub Waiting : {B : Type 0} → PlanValue B → Result SlipModel TurnRefusal → Type 0
Waiting p (Ok s) = SlipWaits (held p.tables) p.model s
Waiting p (Err e) = Unit {0}

module _ {B : Type 0} (list : B → List ℕ) (free : B → ℕ) (grows : B → List ℕ → B → Type 0) where
  -- Done, the whole entry of the line is in the book; refused, line and book are the same.
  abbrev pub EntryOn : ℕ → PlanLine → B → Result (Unit {0}) TurnRefusal → PlanLine → B → Type 0
  EntryOn d l b (Ok x) k c =
      (book_on (free b) d l ≡ done (entry_on d l) k)
      × Entered list free grows b (entry_on d l) true c
  EntryOn d l b (Err e) k c = (book_on (free b) d l ≡ refused (told e).number) × (k ≡ l) × (c ≡ b)

  -- Done, the whole entry of the designer's line is in the book; refused, plan and book are the
  -- same.
  abbrev pub LineBooked : PlanValue B → ℕ → Result ℕ TurnRefusal → PlanValue B → Type 0
  LineBooked p d (Ok n) q =
      (booking free p d ≡ record {
        answer = given n;
        next = q.model;
        written = entry_on d (plan_line p.model d);
      })
      × Entered list free grows p.book (entry_on d (plan_line p.model d)) true q.book
  LineBooked p d (Err e) q =
      (booking free p d ≡ not_booking p.model (told e).number)
      × (q.model ≡ p.model)
      × (q.book ≡ p.book)
