use Rattle.std.proofs.Common.{◌≡◌, sym, ap, subst}
use Rattle.tables.specs.Building.{held}
use Rattle.plan.specs.Model.{Model, opened_model}
use Rattle.plan.specs.LawKept.{BeginsLaw}
use Rattle.plan.proofs.LawKept.{opened_kept}
use Rattle.plan.proofs.plan.Plan.open.Goals as goal

pub returns-clause-law : goal.returns-clause-law
returns-clause-law g c =
    let h = held c.args.tables in
    let fresh : record { lines = c.fresh.result; count = 0 } ≡ opened_model = ap (λ ls. record { lines = ls; count = 0 }) c.fresh.ensures in
    let list = g.B.Book.list c.args.book in
    let free = g.B.Book.free c.args.book in
    subst (λ (m : Model). BeginsLaw h m list free) (sym fresh) (opened_kept h list free)
