use Rattle.std.specs.Cmp.{booleans_Decides}
use Rattle.std.proofs.lemmas.Slice.Eq.{slice_eq-Decides}
use Rattle.tables.proofs.lookup.alike.Goals as goal

pub returns-then-other-print : goal.returns-then-other-print
returns-then-other-print c =
    let same = slice_eq-Decides booleans_Decides c.args.set.now c.args.items.now c.eq.result c.eq.ensures in
    (λ e. (c.if-other-print.true, same.0 e), λ p. same.1 p.1)
