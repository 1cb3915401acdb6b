use Rattle.std.proofs.Common.{arith}
use Rattle.tables.proofs.Lookaheads.{last_rule}
use Rattle.tables.proofs.lookahead.add_follows.Goals as goal

pub returns : goal.returns
returns c =
    last_rule c.args.machine.now.rules c.args.machine.now.states c.args.state c.loop-rule.rule c.loop-rule.sets (omega (arith, c.loop-rule-test.false, c.from-rule-end.ensures)) (omega (arith, c.loop-rule.auto.rule-end (omega arith), c.from-rule-end.ensures)) c.loop-rule.invariant
