-- Transitions by place: that of the state p by the nonterminal T + 1 + k stands at 24 * p + k, below 2304.
use Rattle.std.specs.Prelude.{ℕ, ◌+◌, ◌-◌, ◌*◌, ◌/◌, ◌%◌}
use Rattle.grammar.specs.Grammar.{Grammar}
use Rattle.grammar.specs.States.{Automaton}
use Rattle.grammar.specs.Lookahead.{Transition, Direct, Read, Follow}
use Rattle.tables.specs.declared.rules.Rules.{Rules}
use Rattle.tables.specs.declared.states.States.{States}
use Rattle.tables.specs.Arrays.{grammar_of, automaton}

-- The state and the nonterminal of a place.
abbrev pub transition_at : Rules → ℕ → ℕ × ℕ
transition_at R i = (i / 24, R.terminals + 1 + i % 24)

-- The place of a state and a nonterminal.
abbrev pub place_of : Rules → ℕ → ℕ → ℕ
place_of R p X = 24 * p + (X - R.terminals - 1)

-- A word that can come right behind a transition.
pub record DirectlyBehind (G : Grammar) (A : Automaton) (x : ℕ × ℕ) (w : ℕ) : Type 0 where
  pub is_transition : Transition G A x
  pub direct : Direct G A is_transition.to w

-- A direct word of a state.
abbrev pub DirectIn : Rules → States → ℕ → ℕ → Type 0
DirectIn R S s w = Direct (grammar_of R) (automaton R S) s w

-- A direct word, one of the read set and one of the follow set of the transition at a place.
abbrev pub DirectAt : Rules → States → ℕ → ℕ → Type 0
DirectAt R S i w = DirectlyBehind (grammar_of R) (automaton R S) (transition_at R i) w

abbrev pub ReadAt : Rules → States → ℕ → ℕ → Type 0
ReadAt R S i w = Read (grammar_of R) (automaton R S) (transition_at R i) w

abbrev pub FollowAt : Rules → States → ℕ → ℕ → Type 0
FollowAt R S i w = Follow (grammar_of R) (automaton R S) (transition_at R i) w
