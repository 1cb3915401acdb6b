use Rattle.std.proofs.Common.{arith}
use Rattle.gather.proofs.Closing.{completed_next}
use Rattle.gather.proofs.walk.complete.Goals as goal

pub loop-place-preserved : goal.loop-place-preserved
loop-place-preserved g c =
    let inside = c.requires c.loop-place.place-index 0 (omega arith) in
    completed_next c.args.places.now c.loop-place.place-index (omega arith) (omega (arith, inside.0)) (omega (arith, inside.1)) c.loop-place.invariant
