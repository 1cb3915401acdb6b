use Rattle.std.proofs.Common.{◌+◌, ◌*◌}
use Rattle.tables.specs.Lookaheads.{LookaheadsUpto}
use Rattle.tables.proofs.lookahead.look_ahead.Given as goal

abbrev pub invariant-loop-state : goal.invariant-loop-state
invariant-loop-state l = LookaheadsUpto l.machine.rules l.machine.states (97 * l.state + 1) l.sets
