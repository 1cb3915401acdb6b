use Rattle.std.proofs.Common.{◌≡◌, ◌*◌, ◌≤◌}
use Rattle.tables.specs.Fingerprints.{cubes}
use Rattle.tables.proofs.lookup.fingerprint.Given as goal

abbrev pub invariant-loop-i : goal.invariant-loop-i
invariant-loop-i l = (l.sum ≡ cubes l.i l.items) × (l.sum ≤ 665338617 * l.i)
