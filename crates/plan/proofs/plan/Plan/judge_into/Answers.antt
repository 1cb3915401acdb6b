use Rattle.line.specs.Answers.{given, refused}
use Rattle.line.specs.TurnRefusals.{told}
use Rattle.plan.specs.Turns.{judge}
use Rattle.plan.specs.Requests.{judged_nowhere, slot_full, judged, not_judged}
use Rattle.plan.proofs.WholeLines.{made_none, made_turn}
use Rattle.plan.proofs.Replies.{has, empty, full}
use Rattle.plan.proofs.plan.Plan.judge_into.Goals as goal

pub returns-then-slot-slips : goal.returns-then-slot-slips
returns-then-slot-slips g c =
    let b = g.B.Book in
    made_none b.list b.free b.grows b.laws _ c.args.self.now (judged_nowhere c.args.designer c.args.slot c.if-slot-slips.true)

pub returns-then-is_some : goal.returns-then-is_some
returns-then-is_some g c =
    let b = g.B.Book in
    let x = full _ c.if-is_some.ensures in
    made_none b.list b.free b.grows b.laws _ c.args.self.now
    (slot_full c.args.designer c.args.slot x.0 (has c.args.slips.now c.args.slot _ _ c.if-slot-slips.false x.1))

pub returns-in-Ok : goal.returns-in-Ok
returns-in-Ok g c =
    let b = g.B.Book in
    let i = c.args.slot in
    let s = c.args.slips.now in
    let x = c.in-Ok.slip in
    let none = has s i _ _ c.if-slot-slips.false (empty _ c.if-is_some.ensures) in
    made_turn b.list b.free b.grows b.laws _ c.args.self.now c.judge.new.self (judge c.args.designer (given x)) c.in-Ok.ensures.kept c.in-Ok.ensures.law
    (rw c.put.ensures (judged c.args.designer i x none))

pub returns-in-Err : goal.returns-in-Err
returns-in-Err g c =
    let b = g.B.Book in
    let e = c.in-Err.refusal in
    let none = has c.args.slips.now c.args.slot _ _ c.if-slot-slips.false (empty _ c.if-is_some.ensures) in
    made_turn b.list b.free b.grows b.laws _ c.args.self.now c.judge.new.self (judge c.args.designer (refused (told e).number)) c.in-Err.ensures.kept c.in-Err.ensures.law
    (not_judged c.args.designer c.args.slot e none)
