use Rattle.std.proofs.Common.{Some, None, [], ◌∷◌, slice_set, sym, ap, ◌∙◌, subst}
use Rattle.std.proofs.lemmas.List.{set-get_or}
use Rattle.line.specs.Answers.{refused}
use Rattle.line.specs.TurnRefusals.{told}
use Rattle.plan.specs.declared.request.Request.TheVariants.{Book}
use Rattle.plan.specs.declared.request.Reply.TheVariants.{EmptySlot, Refused}
use Rattle.plan.specs.Turns.{book}
use Rattle.plan.specs.Requests.{Replied, booked_nowhere, nothing_booked, booked, not_booked}
use Rattle.plan.proofs.WholeLines.{made_none, made_turn}
use Rattle.plan.proofs.Replies.{has, put_back, made_booked}
use Rattle.plan.proofs.plan.Plan.book_from.Goals as goal

pub returns-then-slot-slips : goal.returns-then-slot-slips
returns-then-slot-slips g c =
    let b = g.B.Book in
    made_none b.list b.free b.grows b.laws _ c.args.self.now (booked_nowhere c.args.slot c.if-slot-slips.true)

pub returns-in_default : goal.returns-in_default
returns-in_default g c =
    let b = g.B.Book in
    let i = c.args.slot in
    let none = has c.args.slips.now i _ _ c.if-slot-slips.false (sym c.take.ensures.value ∙ c.in_default.is) in
    let same = ap (slice_set c.args.slips.now i) (c.take.ensures.after ∙ sym none.1) ∙ set-get_or c.args.slips.now i None in
    made_none b.list b.free b.grows b.laws _ c.args.self.now
    (subst (λ s. Replied (Book i) EmptySlot c.args.slips.now s []) (sym same) (nothing_booked i none))

pub returns-in-Ok : goal.returns-in-Ok
returns-in-Ok g c =
    let b = g.B.Book in
    let i = c.args.slot in
    let x = c.in-Some.slip in
    let y = c.in-Ok.ensures in
    let some = has c.args.slips.now i _ _ c.if-slot-slips.false (sym c.take.ensures.value ∙ c.in-Some.is) in
    made_booked b.list b.free b.grows _ c.args.self.now c.book.new.self x c.in-Ok.count y.kept (_, y.written) y.law (rw c.take.ensures.after (booked i c.in-Ok.count x some))

pub returns-in-Err : goal.returns-in-Err
returns-in-Err g c =
    let b = g.B.Book in
    let i = c.args.slot in
    let x = c.in-Some.slip in
    let e = c.in-Err.refusal in
    let y = c.in-Err.ensures in
    let some = has c.args.slips.now i _ _ c.if-slot-slips.false (sym c.take.ensures.value ∙ c.in-Some.is) in
    let same = put_back c.args.slips.now i x _ _ some c.take.ensures.after (c.put.ensures ∙ ap Some y.back) in
    made_turn b.list b.free b.grows b.laws _ c.args.self.now c.book.new.self (book x (refused (told e).number)) (y.kept, y.written) y.law
    (subst (λ s. Replied (Book i) (Refused e) c.args.slips.now s (book x (refused (told e).number) ∷ [])) (sym same) (not_booked i x e some))
