-- What the cells of one state mean while they are filled: actions take turns, shift and accept first and then rules by number, and each at one word after the other.
use Rattle.std.specs.Prelude.{◌≡◌, ℕ, ◌+◌, ◌*◌, ◌<◌, length, Some, None, slice_index_or, Option}
use Rattle.grammar.specs.Cells.{rank, Holds}
use Rattle.grammar.specs.declared.action.Action.{Action}
use Rattle.tables.specs.declared.conflict.Conflict.{Conflict}
use Rattle.tables.specs.declared.row.Row.{Row}
use Rattle.tables.specs.declared.rules.Rules.{Rules}
use Rattle.tables.specs.declared.states.States.{States}
use Rattle.tables.specs.Arrays.{grammar_of, automaton}

-- The turn of an action at a word.
abbrev pub turn : ℕ → Action → ℕ
turn w a = 64 * rank a + w

module _ (R : Rules) (S : States) (s : ℕ) where
  abbrev pub Has : ℕ → Action → Type 0
  Has w a = Holds (grammar_of R) (automaton R S) s w a

  -- The first action of a cell, whose turn is before m.
  pub record FirstAction (m w : ℕ) (a : Action) : Type 0 where
    pub holds : Has w a
    pub before : turn w a < m
    pub lowest : (c : Action) → Has w c → rank c < rank a → ⊥

  -- What a cell holds when the turns before m are over.
  abbrev pub CellUpto : ℕ → ℕ → Option Action → Type 0
  CellUpto m w None = (c : Action) → Has w c → turn w c < m → ⊥
  CellUpto m w (Some a) = FirstAction m w a

  -- One action at most has had its turn.
  abbrev pub Alone : ℕ → ℕ → Type 0
  Alone m w = (c d : Action) → Has w c → Has w d → turn w c < m → turn w d < m → c ≡ d

  -- The lowest word at which two actions have had their turns, and the first two there.
  pub record LowestConflict (m : ℕ) (k : Conflict) : Type 0 where
    pub first : Has k.word k.first
    pub second : Has k.word k.second
    pub order : rank k.first < rank k.second
    pub least : (c : Action) → Has k.word c → rank c < rank k.second → c ≡ k.first
    pub lower : (w : ℕ) → w < k.word → Alone m w

  abbrev pub ConflictUpto : ℕ → Option Conflict → Type 0
  ConflictUpto m None = (w : ℕ) → Alone m w
  ConflictUpto m (Some k) = LowestConflict m k

  -- A row when the turns before m are over.
  pub record RowUpto (m : ℕ) (row : Row) : Type 0 where
    pub size : length row.cells ≡ 64
    pub cells : (w : ℕ) → w < 64 → CellUpto m w (slice_index_or row.cells w None)
    pub conflict : ConflictUpto m row.conflict
