-- What the calls of a whole line do, one behind another.
use Rattle.std.specs.Prelude.{ℕ, List, [], ◌∷◌}
use Rattle.tables.specs.Building.{held}
use Rattle.tables.specs.Held.{Held}
use Rattle.line.specs.Answers.{Answer, given, refused}
use Rattle.plan.specs.Turns.{SlipModel}
use Rattle.plan.specs.Model.{Model}
use Rattle.plan.specs.Steps.{Stepped, BookStepped, refusing, not_booking, word_step, judge_step}
use Rattle.plan.specs.Steps.{book_step, withdraw_step, clear_step}
use Rattle.plan.specs.Plans.{PlanValue}

-- The call behind a step, if the step's answer was no refusal.
abbrev pub unless_refused : {B C : Type 0} → Answer B → Model → (Model → Stepped C) → Stepped C
unless_refused (given x) m call = call m
unless_refused (refused c) m call = refusing m c

-- Words brought one by one, to the first refusal.
abbrev pub words_call : Held → Model → ℕ → List ℕ → Stepped (Unit {0})
words_call h m d [] = record { answer = given tt; next = m }
words_call h m d (w ∷ ws) =
    unless_refused (word_step h m d w).answer (word_step h m d w).next (λ k. words_call h k d ws)

-- The words brought, and the line judged if none was refused.
abbrev pub judging_call : Held → Model → ℕ → List ℕ → Stepped SlipModel
judging_call h m d ws =
    unless_refused (words_call h m d ws).answer (words_call h m d ws).next (λ k. judge_step h k d)

-- A slip withdrawn where its booking is refused; the answer is still why it was.
abbrev pub unless_booked : Held → SlipModel → Answer ℕ → BookStepped → BookStepped
unless_booked h s (given n) b = b
unless_booked h s (refused c) b = not_booking (withdraw_step h b.next s.designer).next c

-- A slip booked, or withdrawn, where so many numbers are free in the book.
abbrev pub settling_call : Held → Model → ℕ → SlipModel → BookStepped
settling_call h m free s =
    unless_booked h s (book_step h m free s.designer).answer (book_step h m free s.designer)

-- What comes behind the judging: the slip is settled, and a line without one is cleared, if it is
-- open.
abbrev pub behind_judging : Held → ℕ → ℕ → Answer SlipModel → Model → BookStepped
behind_judging h free d (given s) m = settling_call h m free s
behind_judging h free d (refused c) m = not_booking (clear_step h m d).next c

-- A whole line, where so many numbers are free in the book.
abbrev pub whole_call : Held → Model → ℕ → ℕ → List ℕ → BookStepped
whole_call h m free d ws =
    behind_judging h free d (judging_call h m d ws).answer (judging_call h m d ws).next

-- A slip settled, and a whole line, by what is free in the plan's book.
abbrev pub settling : {B : Type 0} → (B → ℕ) → PlanValue B → SlipModel → BookStepped
settling free p s = settling_call (held p.tables) p.model (free p.book) s

abbrev pub line_call : {B : Type 0} → (B → ℕ) → PlanValue B → ℕ → List ℕ → BookStepped
line_call free p d ws = whole_call (held p.tables) p.model (free p.book) d ws
