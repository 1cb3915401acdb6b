use Rattle.std.proofs.Common.{◌-◌}
use Rattle.grammar.specs.StateLists.{Sofar}
use Rattle.tables.specs.Arrays.{grammar_of}
use Rattle.tables.proofs.numbering.number.Given as goal

abbrev pub invariant-loop-s : goal.invariant-loop-s
invariant-loop-s l =
    Sofar (grammar_of l.rules) l.lookup.states.count l.lookup.states.sets l.lookup.states.gotos l.s 1

abbrev pub decreases-loop-s : goal.decreases-loop-s
decreases-loop-s l = 96 - l.s
