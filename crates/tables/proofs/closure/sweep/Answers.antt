use Rattle.std.proofs.Common.{◌+◌, false, get_or, arith}
use Rattle.std.proofs.lemmas.Bool.{both_ways}
use Rattle.tables.proofs.Closing.{swept_more, swept_skip, swept_at}
use Rattle.tables.proofs.closure.sweep.Goals as goal
use Rattle.tables.proofs.closure.sweep.Goals.{then-ahead-from+then-not-ahead-first, else-ahead-from, else-ahead-from-via-then-ahead-from+else-not-ahead-first, else-ahead-from-via-else-ahead-from}

pub loop-q-preserved : goal.loop-q-preserved
loop-q-preserved c =
    let R = c.args.rules.now in
    let old = c.args.ahead.now in
    let q = c.loop-q.q in
    let ahead = c.loop-q.ahead in
    elim c.if-ahead-from.branch [
      | then-ahead-from+then-not-ahead-first w ↦ swept_at R old (q + 1) (rw c.from-first.ensures at w.ahead-is) w.more-is (swept_more R old q ahead c.loop-q.more c.loop-q.auto.q (omega arith) c.loop-q.invariant (rw c.from.ensures at w.if-ahead-from.true) (rw c.from-first.ensures at w.if-not-ahead-first.true))
      | else-ahead-from w ↦ swept_at R old (q + 1) w.ahead-is w.more-is (swept_skip R old q ahead c.loop-q.more c.loop-q.invariant λ h. elim w.else-ahead-from.branch [
        | else-ahead-from-via-then-ahead-from+else-not-ahead-first v ↦ rw c.from-first.ensures at v.if-not-ahead-first.false
        | else-ahead-from-via-else-ahead-from v ↦ absurd (both_ways (get_or ahead (get_or R.left q 0) false) (rw c.from.ensures at v.if-ahead-from.false) h)
      ])
    ]
