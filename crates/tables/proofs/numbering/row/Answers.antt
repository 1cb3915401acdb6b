use Rattle.std.proofs.Common.{◌+◌, arith}
use Rattle.tables.proofs.StateArrays.{row_end}
use Rattle.tables.proofs.numbering.row.Goals as goal

pub returns-in_ok-entry : goal.returns-in_ok-entry
returns-in_ok-entry c =
    let v = c.in_ok-entry.ensures in
    row_end c.args.rules.now _ _ _ c.args.s (c.loop-code.code + 1) (omega arith) v.state v.sofar
