-- What refusals tell: a number, and values. Each kind of call has an enum of its own, and says what its cases tell.
use Rattle.std.specs.Prelude.{ℕ, List, [], ◌∷◌}
use Rattle.grammar.specs.declared.action.Action.{Action}

pub data Value : Type 0 where
  number : ℕ → Value
  action : Action → Value

pub record Told : Type 0 where
  pub number : ℕ
  pub values : List Value

-- What building tells where it is refused: limits are passed, a rule has a code out of range,
-- a nonterminal is useless, there are too many states, a cell has two actions.
abbrev pub limits : Told
limits = record { number = 3; values = [] }

abbrev pub range : ℕ → Told
range rule = record { number = 4; values = number rule ∷ [] }

abbrev pub useless : ℕ → Told
useless nonterminal = record { number = 5; values = number nonterminal ∷ [] }

abbrev pub states : Told
states = record { number = 6; values = [] }

abbrev pub conflict : ℕ → ℕ → Action → Action → Told
conflict state word first second =
    record {
      number = 7;
      values = number state ∷ number word ∷ action first ∷ action second ∷ [];
    }
