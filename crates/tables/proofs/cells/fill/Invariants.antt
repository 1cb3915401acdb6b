use Rattle.std.proofs.Common.{◌≡◌, ◌++◌, drop, length}
use Rattle.tables.specs.Cells.{RowsUpto}
use Rattle.tables.proofs.FilledCells.{blank}
use Rattle.tables.proofs.cells.fill.Given as goal

-- The rows behind the last state stay as they are.
abbrev pub invariant-loop-state : goal.invariant-loop-state
invariant-loop-state l = (length l.row-items ≡ l.machine.states.count) × RowsUpto l.machine.rules l.machine.states l.state (l.row-items ++ drop l.machine.states.count blank)
