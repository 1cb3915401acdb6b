use Rattle.tables.proofs.StateArrays.{numbered_states}
use Rattle.tables.proofs.numbering.number.Goals as goal

pub returns : goal.returns
returns c = numbered_states c.args.rules.now c.loop-s.lookup.states c.loop-s.s c.loop-s.invariant c.loop-s-test.false
