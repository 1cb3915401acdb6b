use Rattle.std.proofs.Common.{take}
use Rattle.grammar.specs.Grammar.{right_side}
use Rattle.grammar.specs.Lookahead.{Leads}
use Rattle.tables.specs.Arrays.{grammar_of, automaton}
use Rattle.tables.specs.IncludeSteps.{StepsUpto, order}
use Rattle.bounded.specs.BoundedList.{listed}
use Rattle.tables.proofs.includes.steps_by_rule.Given as goal

abbrev pub invariant-loop-dot : goal.invariant-loop-dot
invariant-loop-dot l = Leads (automaton l.machine.rules l.machine.states) l.state (take l.dot (right_side (grammar_of l.machine.rules) l.rule)) l.from × StepsUpto l.machine.rules l.machine.states (order l.state l.rule l.dot) (listed l.steps)
