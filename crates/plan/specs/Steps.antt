-- What each of the five calls of a plan does: a turn of a line, at the designer's place.
use Rattle.std.specs.Prelude.{ℕ, ◌+◌, ◌-◌, ◌^◌, min, true, false, cond, List, [], length, nat_lt}
use Rattle.tables.specs.Held.{Held, blank, holding}
use Rattle.line.specs.Answers.{Answer, given, refused}
use Rattle.line.specs.LineTurns.{asking, word_on, judge_on, freshen_on}
use Rattle.line.specs.Steps.{Step, done, refused as not_done}
use Rattle.plan.specs.Turns.{SlipModel}
use Rattle.plan.specs.Entries.{entry}
use Rattle.plan.specs.Model.{Model, PlanLine, fresh_plan_line, plan_line, with_plan_line}

-- What a call answers, and the plan that it leaves.
pub record Stepped (B : Type 0) : Type 0 where
  pub answer : Answer B
  pub next : Model

-- A refused call leaves the plan as it was.
abbrev pub refusing : {B : Type 0} → Model → ℕ → Stepped B
refusing m c = record { answer = refused c; next = m }

-- A turn of a designer's line leaves the other lines, and the count.
abbrev pub placed : {B : Type 0} → Model → ℕ → Step PlanLine B → Stepped B
placed m d (done x l) = record { answer = given x; next = with_plan_line m d l }
placed m d (not_done c) = refusing m c

-- A call that is a turn of a designer's line: 8 where the tables are blank, 9 where the designer is
-- above 7.
abbrev pub on_line : {B : Type 0} → Held → Model → ℕ → (PlanLine → Step PlanLine B) → Stepped B
on_line blank m d turn = refusing m 8
on_line (holding G n A cells) m d turn =
    cond (nat_lt 7 d) (refusing m 9) (placed m d (turn (plan_line m d)))

-- A word brought to a designer's line.
abbrev pub word_step : Held → Model → ℕ → ℕ → Stepped ℕ
word_step h m d w = on_line h m d (λ l. word_on h l w)

-- The slip of a line just judged.
abbrev pub slipped : ℕ → Step PlanLine (ℕ × ℕ) → Step PlanLine SlipModel
slipped d (done x l) = done (record { designer = d; words = x.0; steps = x.1 }) l
slipped d (not_done c) = not_done c

-- A designer's line judged.
abbrev pub judge_step : Held → Model → ℕ → Stepped SlipModel
judge_step h m d = on_line h m d (λ l. slipped d (judge_on h l))

-- The judged line of a slip's designer withdrawn.
abbrev pub withdraw_step : Held → Model → ℕ → Stepped (Unit {0})
withdraw_step h m d = on_line h m d (freshen_on true)

-- A designer's line cleared.
abbrev pub clear_step : Held → Model → ℕ → Stepped (Unit {0})
clear_step h m d = on_line h m d (freshen_on false)

-- The entry of a designer's line.
abbrev pub entry_on : ℕ → PlanLine → List ℕ
entry_on d l = entry d l.line.words l.line.rules

-- A judged line that gives its entry to the book, where so many numbers are free, and is then
-- fresh.
abbrev pub book_on : ℕ → ℕ → PlanLine → Step PlanLine (List ℕ)
book_on free d l =
    let numbers = entry_on d l in
    asking true l
    (cond (nat_lt free (length numbers)) (not_done 15) (done numbers fresh_plan_line))

-- What booking answers, the plan that it leaves, and the numbers that it adds to the book.
pub record BookStepped : Type 0 where
  pub answer : Answer ℕ
  pub next : Model
  pub written : List ℕ

-- A refused booking leaves plan and book as they were.
abbrev pub not_booking : Model → ℕ → BookStepped
not_booking m c = record { answer = refused c; next = m; written = [] }

-- A booking done is counted, up to the largest number of 64 bits.
abbrev pub counted : Answer (List ℕ) → Model → BookStepped
counted (given numbers) m =
    let n = min (m.count + 1) (2 ^ 64 - 1) in
    record { answer = given n; next = record { lines = m.lines; count = n }; written = numbers }
counted (refused c) m = not_booking m c

-- The judged line of a slip's designer booked, where so many numbers are free in the book.
abbrev pub book_step : Held → Model → ℕ → ℕ → BookStepped
book_step h m free d = let s = on_line h m d (book_on free d) in counted s.answer s.next
