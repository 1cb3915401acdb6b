use Rattle.std.proofs.Common.{◌<◌, length, refl, arith}
use Rattle.plan.specs.LinesAnswered.{none}
use Rattle.plan.proofs.LinesAnswered.{lines_more}
use Rattle.plan.proofs.Rewriting.{next_same, rest_same}
use Rattle.plan.proofs.WholeLines.{made_none, made_then}
use Rattle.plan.proofs.plan.Plan.book_each.Goals as goal

pub loop-place-init : goal.loop-place-init
loop-place-init g c = let b = g.B.Book in (made_none b.list b.free b.grows b.laws _ c.args.self.now none, refl)

pub loop-place-preserved : goal.loop-place-preserved
loop-place-preserved g c =
    let b = g.B.Book in
    let l = c.loop-place in
    let xs = c.args.lines.now in
    let low : l.place < length xs = omega (arith, c.loop-place-test.true) in
    let low' : l.place < length l.lines = omega (arith, c.loop-place-test.true, l.auto.lines) in
    let next = next_same xs l.lines l.place l.invariant.1 _ low low' in (
      made_then b.list b.free b.grows b.laws _ c.args.self.now l.self c.book_words.new.self l.invariant.0 c.book_words.ensures.made λ ts us p q.
          lines_more xs l.lines l.place _ low low' next c.book_words.result p q,
      rest_same xs l.lines l.place l.invariant.1 _,
    )
