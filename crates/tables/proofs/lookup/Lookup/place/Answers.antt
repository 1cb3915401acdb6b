use Rattle.std.proofs.Common.{refl, arith}
use Rattle.grammar.specs.StateLists.{old, new, full}
use Rattle.tables.proofs.lookup.Lookup.place.Goals as goal

pub returns-in-Some-clause-placed : goal.returns-in-Some-clause-placed
returns-in-Some-clause-placed c = (omega (arith, c.in-Some.ensures.0, c.args.self.now.states.few), old c.in-Some.ensures.0 c.in-Some.ensures.1)

pub returns-then-t-eq96-clause-placed : goal.returns-then-t-eq96-clause-placed
returns-then-t-eq96-clause-placed c = full c.if-t-eq96.true c.in_default.ensures

pub returns-clause-placed : goal.returns-clause-placed
returns-clause-placed c = let k = c.if-t-eq96.false in (omega (arith, c.args.self.now.states.few), new refl (omega (arith, c.args.self.now.states.few)) c.in_default.ensures)
