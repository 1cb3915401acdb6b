use Rattle.std.proofs.Common.{◌≡◌, ◌+◌, length, take}
use Rattle.sheet.specs.Packing.{contents}
use Rattle.sheet.specs.Packs.{begins}
use Rattle.sheet.proofs.packing.put_contents.Given as goal

abbrev pub invariant-loop-i : goal.invariant-loop-i
invariant-loop-i g l = (l.at ≡ begins (g.S.RuleSheet.meaning l.sheet) l.i) × (take l.i l.out ≡ contents (3 + length (g.S.RuleSheet.meaning l.sheet).rules) (take l.i (g.S.RuleSheet.meaning l.sheet).rules))
