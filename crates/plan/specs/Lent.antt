-- A designer's line lent out of the eight.
use Rattle.std.specs.Prelude.{◌≡◌, ℕ, ◌<◌, List, length, Ok, Err, Result, slice_index_or, slice_set}
use Rattle.std.specs.Borrow.{LendsIfOk, MutBor, Fml}
use Rattle.tables.specs.Held.{Held, blank, holding}
use Rattle.line.specs.PlanLines.{PlanLine, fresh_plan_line}
use Rattle.line.specs.declared.turn_refusal.TurnRefusal.{TurnRefusal}
use Rattle.line.specs.TurnRefusals.{told}
use Rattle.plan.specs.contracts.lines.Lines.{the_row as lines_row}
use Rattle.plan.specs.contracts.lines.Seat.{the_row as seat_row}

-- The lines end with what is left of this one in its place; refused, they are as they were.
abbrev pub LendsLine : MutBor (List PlanLine) → ℕ → Result (MutBor PlanLine) TurnRefusal → Fml
LendsLine s d r = LendsIfOk lines_row seat_row s r (slice_set s.now d) s.now

-- Why no line is lent: 8 where the tables are blank, 9 where the designer is above 7.
abbrev pub NotLent : Held → ℕ → TurnRefusal → Type 0
NotLent blank d e = (told e).number ≡ 8
NotLent (holding G n A cells) d e = (7 < d) × ((told e).number ≡ 9)

-- The tables are not blank.
abbrev pub IsHolding : Held → Type 0
IsHolding blank = ⊥
IsHolding (holding G n A cells) = Unit {0}

-- Which line it is.
abbrev pub Lent : Held → List PlanLine → ℕ → Result (MutBor PlanLine) TurnRefusal → Type 0
Lent h ls d (Ok l) =
    IsHolding h
    × (d < 8)
    × (d < length ls)
    × (slice_index_or ls d fresh_plan_line ≡ l.now)
Lent h ls d (Err e) = NotLent h d e
