-- What a refused build tells.
use Rattle.grammar.specs.Refusals.{Told, limits, range, useless, states, conflict}
use Rattle.tables.specs.declared.build_refusal.BuildRefusal.{BuildRefusal}
use Rattle.tables.specs.declared.build_refusal.BuildRefusal.TheVariants.{Limits, Range, Useless, States, Conflict}

abbrev pub told : BuildRefusal → Told
told Limits = limits
told (Range rule) = range rule
told (Useless nonterminal) = useless nonterminal
told States = states
told (Conflict state word first second) = conflict state word first second
