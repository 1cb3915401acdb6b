-- A plan as plain values.
use Rattle.std.specs.Prelude.{ℕ, List, replicate, slice_index_or, slice_set}
pub use Rattle.line.specs.PlanLines.{PlanLine, fresh_plan_line}

-- The line of each designer from 0 to 7, and the count of booked lines.
pub record Model : Type 0 where
  pub lines : List PlanLine
  pub count : ℕ

-- A plan opens with eight fresh lines, and none booked.
abbrev pub opened_model : Model
opened_model = record { lines = replicate 8 fresh_plan_line; count = 0 }

-- A designer's line of the plan.
abbrev pub plan_line : Model → ℕ → PlanLine
plan_line m d = slice_index_or m.lines d fresh_plan_line

-- The plan with another line for a designer.
abbrev pub with_plan_line : Model → ℕ → PlanLine → Model
with_plan_line m d l = record { lines = slice_set m.lines d l; count = m.count }
