-- States, moves and cells written out as lists, and how they are read.
use Rattle.std.specs.Prelude.{ℕ, Bool, ◌&&◌, List, [], ◌==◌, slice_index_or, Option}
use Rattle.std.specs.List.{list_any}
use Rattle.std.specs.Map
use Rattle.grammar.specs.States.{Automaton}
use Rattle.grammar.specs.declared.action.Action.{Action}

-- The items of each state as pairs of rule and dot; a target for each state and code; an action for each state and word.
pub record Tables : Type 0 where
  pub states : List (List (ℕ × ℕ))
  pub moves : List ((ℕ × ℕ) × ℕ)
  pub actions : List ((ℕ × ℕ) × Action)

-- Two pairs of numbers are equal.
abbrev pub same_pair : ℕ × ℕ → ℕ × ℕ → Bool
same_pair x y = x.0 == y.0 && x.1 == y.1

-- What a list has first for a pair.
abbrev pub lookup : {B : Type 0} → List ((ℕ × ℕ) × B) → ℕ → ℕ → Option B
lookup l a b = Map.lookup (same_pair (a, b)) l

-- The items of a state; none behind the last.
abbrev pub items_of : Tables → ℕ → List (ℕ × ℕ)
items_of t s = slice_index_or t.states s []

-- The states and their moves.
abbrev pub automaton : Tables → Automaton
automaton t = record { has = λ s r d. list_any (same_pair (r, d)) (items_of t s); goto = lookup t.moves }

-- The cells: an empty cell is none.
abbrev pub cells : Tables → ℕ → ℕ → Option Action
cells t = lookup t.actions
