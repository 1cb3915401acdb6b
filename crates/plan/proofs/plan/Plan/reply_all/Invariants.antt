use Rattle.std.proofs.Common.{◌≡◌, take, drop}
use Rattle.plan.specs.Made.{Made}
use Rattle.plan.specs.Requests.{Answered}
use Rattle.plan.proofs.plan.Plan.reply_all.Given as goal

abbrev pub invariant-loop-place : goal.invariant-loop-place
invariant-loop-place g l =
    Made g.B.Book.list g.B.Book.free g.B.Book.grows (Answered (take l.place l.initial.asked) (take l.place l.asked) l.initial.slips l.slips) l.initial.self l.self
    × (drop l.place l.asked ≡ drop l.place l.initial.asked)
