use Rattle.tables.specs.SheetArrays.{Sides}
use Rattle.tables.proofs.limits.sides.Given as goal

abbrev pub invariant-loop-rule : goal.invariant-loop-rule
invariant-loop-rule g l = Sides (g.S.RuleSheet.meaning l.sheet) l.rule l.left l.right
