use Rattle.std.proofs.Common.{take}
use Rattle.grammar.specs.Grammar.{right_side}
use Rattle.grammar.specs.Lookahead.{Leads}
use Rattle.tables.specs.Arrays.{grammar_of, automaton}
use Rattle.tables.proofs.machine.Machine.walk.Given as goal

abbrev pub invariant-loop-code : goal.invariant-loop-code
invariant-loop-code l = Leads (automaton l.self.rules l.self.states) l.fn.state (take l.code-index (right_side (grammar_of l.self.rules) l.rule)) l.at
