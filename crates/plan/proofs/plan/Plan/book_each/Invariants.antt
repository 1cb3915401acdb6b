use Rattle.std.proofs.Common.{◌≡◌, take, drop}
use Rattle.plan.specs.LinesAnswered.{LinesAnswered}
use Rattle.plan.specs.Made.{Made}
use Rattle.plan.proofs.plan.Plan.book_each.Given as goal

abbrev pub invariant-loop-place : goal.invariant-loop-place
invariant-loop-place g l =
    Made g.B.Book.list g.B.Book.free g.B.Book.grows (LinesAnswered (take l.place l.initial.lines) (take l.place l.lines)) l.initial.self l.self
    × (drop l.place l.lines ≡ drop l.place l.initial.lines)
