use Rattle.std.proofs.Common.{◌+◌, ◌*◌, arith, length-take}
use Rattle.tables.proofs.Moving.{moving_none, moving_all}
use Rattle.tables.proofs.moves.advance.Goals as goal

pub loop-i-init : goal.loop-i-init
loop-i-init c = moving_none c.args.rules.now c.args.items.now c.args.code

pub returns : goal.returns
returns c =
    let R = c.args.rules.now in
    moving_all R c.args.items.now c.args.code c.loop-i.i c.loop-i.moved c.requires (omega (arith, R.count96, length-take (9 * R.count + 8) c.args.items.now)) c.loop-i.invariant
