use Rattle.std.proofs.Common.{◌≡◌}
use Rattle.tables.specs.Rows.{reduced}
use Rattle.tables.proofs.row.Row.reduce.Given as goal

abbrev pub invariant-loop-word : goal.invariant-loop-word
invariant-loop-word l = l.self ≡ reduced l.lookahead l.rule l.word l.initial.self
