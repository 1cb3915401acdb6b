use Rattle.std.proofs.Common.{◌+◌, ◌*◌}
use Rattle.tables.specs.Lookaheads.{LookaheadsUpto}
use Rattle.tables.proofs.lookahead.add_follows.Given as goal

abbrev pub invariant-loop-rule : goal.invariant-loop-rule
invariant-loop-rule l = LookaheadsUpto l.machine.rules l.machine.states (97 * l.state + l.rule) l.sets
