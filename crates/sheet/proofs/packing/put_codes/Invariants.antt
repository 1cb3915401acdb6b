use Rattle.std.proofs.Common.{◌≡◌, take}
use Rattle.sheet.specs.Packs.{rule_at}
use Rattle.sheet.proofs.packing.put_codes.Given as goal

abbrev pub invariant-loop-k : goal.invariant-loop-k
invariant-loop-k g l = take l.k l.out ≡ take l.k (rule_at (g.S.RuleSheet.meaning l.sheet) l.i).right
