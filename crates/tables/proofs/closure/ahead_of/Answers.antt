use Rattle.tables.proofs.Closing.{grown_start, grown_whole}
use Rattle.tables.proofs.closure.ahead_of.Goals as goal

pub loop-init : goal.loop-init
loop-init c = grown_start c.args.rules.now c.args.items.now c.waiting-ahead.result c.waiting-ahead.ensures

pub returns : goal.returns
returns c =
    let R = c.args.rules.now in
    let xs = c.args.items.now in
    let g = c.sweep.ensures.grown xs c.loop.invariant in
    record { sound = g.sound; whole = grown_whole R xs c.sweep.new.ahead g (c.sweep.ensures.full c.loop-test.false) }
