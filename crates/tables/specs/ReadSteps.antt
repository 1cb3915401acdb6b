-- The steps of reads, by place.
use Rattle.std.specs.Prelude.{ℕ, ◌≡◌, ◌+◌, ◌*◌, ◌<◌, Bool, false, ◌&&◌, is_some, List, [], filter, map, slice_index_or, Option, Some, None, option_map}
use Rattle.std.specs.List.{range_with_len, slice_get}
use Rattle.bounded.specs.BoundedList.{listed}
use Rattle.bounded.specs.declared.bounded_list.BoundedList.{BoundedList}
use Rattle.tables.specs.declared.rules.Rules.{Rules}
use Rattle.tables.specs.declared.states.States.{States}
use Rattle.tables.specs.Arrays.{automaton}
use Rattle.tables.specs.Transitions.{transition_at}

-- Whether the nonterminal T + 1 + k is nullable and leads on from the state t.
abbrev pub passes : Rules → States → List Bool → ℕ → ℕ → Bool
passes R S null t k = slice_index_or null (R.terminals + 1 + k) false && is_some ((automaton R S).goto t (R.terminals + 1 + k))

-- The numbers of these nonterminals.
abbrev pub chosen : Rules → States → List Bool → ℕ → List ℕ
chosen R S null t = filter (passes R S null t) (range_with_len 0 R.nonterminals)

-- The numbers found for the states below n are these.
abbrev pub FoundBelow : Rules → States → List Bool → ℕ → List (BoundedList ℕ 24) → Type 0
FoundBelow R S null n found = (t : ℕ) → t < n → option_map listed (slice_get found t) ≡ Some (chosen R S null t)

-- A step for each of them in the state behind the transition.
abbrev pub reads_behind : Rules → States → List Bool → Option ℕ → List ℕ
reads_behind R S null None = []
reads_behind R S null (Some t) = map (λ k. 24 * t + k) (chosen R S null t)

abbrev pub reads_from : Rules → States → List Bool → ℕ → List ℕ
reads_from R S null i = reads_behind R S null ((automaton R S).goto (transition_at R i).0 (transition_at R i).1)
