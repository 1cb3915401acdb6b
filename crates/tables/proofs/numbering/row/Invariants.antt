use Rattle.tables.specs.EntryRows.{InRow}
use Rattle.tables.proofs.numbering.row.Given as goal

abbrev pub invariant-loop-code : goal.invariant-loop-code
invariant-loop-code l = InRow l.rules l.s l.from l.lookup.states l.code
