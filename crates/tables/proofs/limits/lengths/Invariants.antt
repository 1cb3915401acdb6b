use Rattle.tables.specs.SheetArrays.{Lengths}
use Rattle.tables.proofs.limits.lengths.Given as goal

abbrev pub invariant-loop-rule : goal.invariant-loop-rule
invariant-loop-rule g l = Lengths (g.S.RuleSheet.meaning l.sheet) l.rule l.size
