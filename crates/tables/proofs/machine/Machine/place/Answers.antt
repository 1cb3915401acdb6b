use Rattle.std.proofs.Common.{arith}
use Rattle.tables.proofs.Transitions.{within, inside}
use Rattle.tables.proofs.machine.Machine.place.Goals as goal

pub overflow_cast-result : goal.overflow_cast-result
overflow_cast-result c = let m = c.args.self.now in omega (arith, (within m.rules m.states (c.args.state, c.args.code) c.requires).state, m.states.few)

pub overflow_mul-result : goal.overflow_mul-result
overflow_mul-result c = let m = c.args.self.now in omega (arith, (within m.rules m.states (c.args.state, c.args.code) c.requires).state, m.states.few)

pub overflow_sub-code : goal.overflow_sub-code
overflow_sub-code c = let m = c.args.self.now in omega (arith, (within m.rules m.states (c.args.state, c.args.code) c.requires).low)

pub overflow_sub-code-2 : goal.overflow_sub-code-2
overflow_sub-code-2 c = let m = c.args.self.now in omega (arith, (within m.rules m.states (c.args.state, c.args.code) c.requires).low)

pub overflow_add-result : goal.overflow_add-result
overflow_add-result c = let m = c.args.self.now in omega (arith, inside m.rules m.states (c.args.state, c.args.code) c.requires, c.from.ensures)

pub returns-clause-inside : goal.returns-clause-inside
returns-clause-inside c = let m = c.args.self.now in omega (arith, inside m.rules m.states (c.args.state, c.args.code) c.requires, c.from.ensures)
