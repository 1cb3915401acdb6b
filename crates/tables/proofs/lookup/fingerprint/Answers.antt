use Rattle.std.proofs.Common.{false, refl, sym, ◌∙◌, arith}
use Rattle.std.proofs.lemmas.List.{get_or-take}
use Rattle.tables.specs.Fingerprints.{cubes}
use Rattle.tables.proofs.Fingerprints.{cubes_more, cubes_skip, cube_fits}
use Rattle.tables.proofs.lookup.fingerprint.Goals as goal
use Rattle.tables.proofs.lookup.fingerprint.Goals.{then-is_in, else-is_in}

pub loop-i-init : goal.loop-i-init
unfolding cubes
loop-i-init c = (refl, omega arith)

pub loop-i-preserved : goal.loop-i-preserved
loop-i-preserved c =
    let i = c.loop-i.i in
    let xs = c.args.items.now in
    let is = get_or-take c.args.end xs i false (omega arith) in
    elim c.if-is_in.branch [
      | then-is_in w ↦ (omega (arith, w.sum-is, c.loop-i.invariant.0, cubes_more i xs (sym is ∙ w.if-is_in.true)), omega (arith, w.sum-is, cube_fits i (omega arith), c.loop-i.invariant.1))
      | else-is_in w ↦ (omega (arith, w.sum-is, c.loop-i.invariant.0, cubes_skip i xs (sym is ∙ w.if-is_in.false)), omega (arith, w.sum-is, c.loop-i.invariant.1))
    ]
