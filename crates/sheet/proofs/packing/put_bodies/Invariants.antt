use Rattle.std.proofs.Common.{◌≡◌, length, take}
use Rattle.sheet.specs.Packing.{bodies}
use Rattle.sheet.proofs.packing.put_bodies.Given as goal

abbrev pub invariant-loop-i : goal.invariant-loop-i
invariant-loop-i g l = (l.at ≡ length (bodies (take l.i (g.S.RuleSheet.meaning l.sheet).rules))) × (take l.at l.out ≡ bodies (take l.i (g.S.RuleSheet.meaning l.sheet).rules))
