use Rattle.std.proofs.Common.{subst}
use Rattle.plan.specs.Made.{Grown}
use Rattle.plan.proofs.RunsKept.{run_kept}
use Rattle.plan.proofs.whole_lines.book_all.Goals as goal

pub returns : goal.returns
returns g c =
    let b = g.B.Book in
    let x = c.book_each.ensures in
    let o = c.open-plan.ensures in
    let G = g.S.RuleSheet.meaning c.args.sheet.now in
    let kept = run_kept b.list b.free G c.args.book _ c.open-plan.result c.book_each.new.self x.turns c.in_default.ensures.is o.kept.0 o.kept.1 o.law x.law in
    let grown = subst (λ k. Grown b.grows k c.book_each.new.self.book) o.kept.1 x.grown in
    rw c.close.ensures (x.turns, x.are, kept, grown)
