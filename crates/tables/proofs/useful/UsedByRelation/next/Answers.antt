use Rattle.std.proofs.Common.{arith}
use Rattle.tables.proofs.UsedBy.{users_length, users_past, users_told}
use Rattle.tables.proofs.useful.UsedByRelation.next.Goals as goal

pub returns-then-k-from : goal.returns-then-k-from
returns-then-k-from c =
    let R = c.args.self.now.rules.now in
    record { told = users_past R c.args.place c.args.k (rw c.from.ensures at c.if-k-from.true); short = omega (arith, users_length R c.args.place) }

pub returns : goal.returns
returns c =
    let R = c.args.self.now.rules.now in
    record { told = users_told R c.args.place c.args.k c.user.result (rw c.from.ensures at c.if-k-from.false) c.user.ensures; short = omega (arith, users_length R c.args.place) }
