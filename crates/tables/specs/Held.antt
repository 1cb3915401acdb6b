-- What tables hold.
use Rattle.std.specs.Prelude.{ℕ, List, Option}
use Rattle.grammar.specs.Grammar.{Grammar}
use Rattle.grammar.specs.States.{Automaton}
use Rattle.grammar.specs.Outcome.{Outcome, built}
use Rattle.grammar.specs.declared.action.Action.{Action}
use Rattle.tables.specs.declared.rules.Rules.{Rules}
use Rattle.tables.specs.declared.states.States.{States}
use Rattle.tables.specs.AllUseful.{AllUseful}
use Rattle.tables.specs.Arrays.{grammar_of, automaton}
use Rattle.tables.specs.Cells.{cell_at}

-- The tables are exactly those of their rules: what building the rules comes to, with every nonterminal of use.
pub record Exactly (R : Rules) (S : States) (cells : List (List (Option Action))) : Type 0 where
  pub outcome : Outcome (grammar_of R) (built S.count (automaton R S) (cell_at cells))
  pub useful : AllUseful (grammar_of R)

-- Nothing, or a grammar with its number of states, its automaton and its cells.
pub data Held : Type 0 where
  blank : Held
  holding : Grammar → ℕ → Automaton → (ℕ → ℕ → Option Action) → Held
