use Rattle.std.proofs.Common.{◌<◌, length, refl, arith}
use Rattle.plan.specs.Requests.{none}
use Rattle.plan.proofs.Rewriting.{next_same, rest_same}
use Rattle.plan.proofs.WholeLines.{made_none, made_then}
use Rattle.plan.proofs.Replies.{answered_more}
use Rattle.plan.proofs.plan.Plan.reply_all.Goals as goal

pub loop-place-init : goal.loop-place-init
loop-place-init g c = let b = g.B.Book in (made_none b.list b.free b.grows b.laws _ c.args.self.now none, refl)

pub loop-place-preserved : goal.loop-place-preserved
loop-place-preserved g c =
    let b = g.B.Book in
    let l = c.loop-place in
    let xs = c.args.asked.now in
    let low : l.place < length xs = omega (arith, c.loop-place-test.true) in
    let low' : l.place < length l.asked = omega (arith, c.loop-place-test.true, l.auto.asked) in
    let next = next_same xs l.asked l.place l.invariant.1 _ low low' in (
      made_then b.list b.free b.grows b.laws _ c.args.self.now l.self c.reply.new.self l.invariant.0 c.reply.ensures λ ts us p q.
          answered_more xs l.asked l.place _ low low' next c.reply.result p q,
      rest_same xs l.asked l.place l.invariant.1 _,
    )
