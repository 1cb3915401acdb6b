use Rattle.std.proofs.Common.{◌≡◌, None}
use Rattle.tables.specs.RowMeaning.{RowUpto}
use Rattle.tables.proofs.cells.moves.Given as goal

abbrev pub invariant-loop-word : goal.invariant-loop-word
invariant-loop-word l = (l.row.conflict ≡ None) × RowUpto l.machine.rules l.machine.states l.state l.word l.row
