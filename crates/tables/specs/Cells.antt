-- Cells by state and word.
use Rattle.std.specs.Prelude.{◌≡◌, ℕ, ◌<◌, ◌≤◌, ◌↔◌, List, [], length, None, Ok, Err, Result, slice_index_or, Option, Some}
use Rattle.grammar.specs.Cells.{Holds, FirstConflict, Exact}
use Rattle.grammar.specs.Refusals.{conflict}
use Rattle.grammar.specs.declared.action.Action.{Action}
use Rattle.tables.specs.declared.build_refusal.BuildRefusal.{BuildRefusal}
use Rattle.tables.specs.declared.rules.Rules.{Rules}
use Rattle.tables.specs.declared.states.States.{States}
use Rattle.tables.specs.Arrays.{grammar_of, automaton}
use Rattle.tables.specs.BuildRefusals.{told}

-- The cell of a state and a word; none outside the lists.
abbrev pub cell_at : List (List (Option Action)) → ℕ → ℕ → Option Action
cell_at cells s w = slice_index_or (slice_index_or cells s []) w None

-- The rows of the states below n are exact, and the others are empty.
pub record RowsUpto (R : Rules) (S : States) (n : ℕ) (cells : List (List (Option Action))) : Type 0 where
  pub size : length cells ≡ 96
  pub exact : (s w : ℕ) (a : Action) → s < n → (cell_at cells s w ≡ Some a) ↔ Holds (grammar_of R) (automaton R S) s w a
  pub rest : (s w : ℕ) → n ≤ s → cell_at cells s w ≡ None

-- What is told is the first conflict.
abbrev pub Conflicting : Rules → States → BuildRefusal → Type 0
Conflicting R S e =
    (s w : ℕ)
    × (a b : Action)
    × (told e ≡ conflict s w a b)
    × FirstConflict (grammar_of R) (automaton R S) s w a b

-- Filling gives the exact cells, or tells the first conflict.
abbrev pub Filled : Rules → States → Result (List (List (Option Action))) BuildRefusal → Type 0
Filled R S (Ok cells) = Exact (grammar_of R) (automaton R S) (cell_at cells)
Filled R S (Err e) = Conflicting R S e
