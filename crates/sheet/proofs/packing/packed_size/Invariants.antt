use Rattle.std.proofs.Common.{◌≡◌, ℕ, ◌<◌}
use Rattle.sheet.specs.Packs.{begins}
use Rattle.sheet.proofs.packing.packed_size.Given as goal

abbrev pub invariant-loop-i : goal.invariant-loop-i
invariant-loop-i g l = (l.at ≡ begins (g.S.RuleSheet.meaning l.sheet) l.i) × ((j : ℕ) → j < l.i → begins (g.S.RuleSheet.meaning l.sheet) j < 65536)
