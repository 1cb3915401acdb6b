-- Numbered states of rules that are all of use.
use Rattle.std.specs.Prelude.{◌≡◌}
use Rattle.grammar.specs.Refusals.{states}
use Rattle.grammar.specs.States.{Numbered, Crowded}
use Rattle.tables.specs.declared.build_refusal.BuildRefusal.{BuildRefusal}
use Rattle.tables.specs.declared.rules.Rules.{Rules}
use Rattle.tables.specs.declared.states.States.{States}
use Rattle.tables.specs.AllUseful.{AllUseful}
use Rattle.tables.specs.Arrays.{grammar_of, automaton}
use Rattle.tables.specs.BuildRefusals.{told}

pub record UsefulNumbering (R : Rules) (S : States) : Type 0 where
  pub useful : AllUseful (grammar_of R)
  pub numbered : Numbered (grammar_of R) S.count (automaton R S)

-- What is told is that a 97th state is needed, and it is.
abbrev pub TooManyStates : Rules → BuildRefusal → Type 0
TooManyStates R e = (told e ≡ states) × Crowded (grammar_of R)
