use Rattle.std.proofs.Common.{false, get_or, arith}
use Rattle.std.proofs.lemmas.Bool.{both_ways}
use Rattle.tables.proofs.Closing.{filled_start, filled_more, filled_skip, filled_all}
use Rattle.tables.proofs.closure.complete.Goals as goal
use Rattle.tables.proofs.closure.complete.Goals.{then-ahead-from, else-ahead-from}

pub loop-q-init : goal.loop-q-init
loop-q-init c = filled_start c.args.rules.now c.args.items.now (omega arith)

pub loop-q-preserved : goal.loop-q-preserved
loop-q-preserved c =
    let R = c.args.rules.now in
    let xs = c.args.items.now in
    let q = c.loop-q.q in
    let X = get_or R.left q 0 in
    elim c.if-ahead-from.branch [
      | then-ahead-from w ↦ rw w.items-is (filled_more R xs q c.loop-q.items c.loop-q.auto.q (omega arith) c.loop-q.invariant (c.ahead_of-ahead.ensures.sound X (rw c.from.ensures at w.if-ahead-from.true)))
      | else-ahead-from w ↦ rw w.items-is (filled_skip R xs q c.loop-q.items c.loop-q.invariant λ a. both_ways (get_or c.ahead_of-ahead.result X false) (rw c.from.ensures at w.if-ahead-from.false) (c.ahead_of-ahead.ensures.whole X (omega (arith, R.lefts q c.loop-q.auto.q (omega arith))) a))
    ]

pub returns : goal.returns
returns c = filled_all c.args.rules.now c.args.items.now c.loop-q.q c.loop-q.items (rw c.from-q-end.ensures at c.loop-q-test.false) c.loop-q.invariant
