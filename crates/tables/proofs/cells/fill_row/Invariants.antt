use Rattle.std.proofs.Common.{◌*◌}
use Rattle.tables.specs.RowMeaning.{RowUpto}
use Rattle.tables.proofs.cells.fill_row.Given as goal

abbrev pub invariant-loop-rule : goal.invariant-loop-rule
invariant-loop-rule l = RowUpto l.machine.rules l.machine.states l.state (64 * l.rule) l.row
