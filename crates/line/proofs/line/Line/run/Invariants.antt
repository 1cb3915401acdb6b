use Rattle.std.proofs.Common.{◌-◌, length}
use Rattle.tables.specs.Building.{held}
use Rattle.line.specs.MachineRuns.{StatesKept}
use Rattle.line.specs.PlanLines.{plan_line_of}
use Rattle.line.proofs.MachineOnLines.{Midway}
use Rattle.line.proofs.line.Line.run.Given as goal

abbrev pub invariant-loop-to : goal.invariant-loop-to
invariant-loop-to l = Midway (held l.tables) l.word (plan_line_of l.initial.self).line (plan_line_of l.self).line × StatesKept l.initial.self l.self

abbrev pub decreases-loop-to : goal.decreases-loop-to
decreases-loop-to l = 768 - length (plan_line_of l.self).line.rules
