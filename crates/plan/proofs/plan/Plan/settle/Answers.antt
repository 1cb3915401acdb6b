use Rattle.std.proofs.Common.{subst}
use Rattle.line.specs.TurnRefusals.{told}
use Rattle.plan.specs.Turns.{SlipModel}
use Rattle.plan.specs.Made.{Made}
use Rattle.plan.specs.WholeLines.{Withdrawing}
use Rattle.plan.proofs.WholeLines.{settled_booked, settled_withdrawn}
use Rattle.plan.proofs.plan.Plan.settle.Goals as goal

pub returns-in-Ok-clause-made : goal.returns-in-Ok-clause-made
returns-in-Ok-clause-made g c =
    let b = g.B.Book in
    let x = c.in-Ok.ensures in
    settled_booked b.list b.free b.grows b.laws c.args.self.now c.book.new.self c.args.slip c.in-Ok.count x.kept (_, x.written) x.law

pub returns-in-Err-clause-made : goal.returns-in-Err-clause-made
returns-in-Err-clause-made g c =
    let b = g.B.Book in
    let x = c.in-Err.ensures in
    let back = subst (λ (s : SlipModel). Made b.list b.free b.grows (Withdrawing s) c.book.new.self c.take_back.new.self) x.back c.take_back.ensures.made in
    settled_withdrawn b.list b.free b.grows b.laws c.args.self.now c.book.new.self c.take_back.new.self c.args.slip (told c.in-Err.refusal).number (x.kept, x.written) x.law back
