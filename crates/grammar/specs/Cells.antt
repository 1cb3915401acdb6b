-- What the cell of a state and a word, 0 included, holds.
use Rattle.std.specs.Prelude.{◌≡◌, ℕ, ◌<◌, true, ◌↔◌, Option, Some}
use Rattle.grammar.specs.Grammar.{Grammar, IsTerminal, IsRule}
use Rattle.grammar.specs.States.{Automaton, Earlier}
use Rattle.grammar.specs.Lookahead.{Lookahead}
use Rattle.grammar.specs.declared.action.Action.{Action}
use Rattle.grammar.specs.declared.action.Action.TheVariants.{Shift, Accept, Reduce}

-- The order of the actions of a cell: shift or accept first, then rules by number.
abbrev pub rank : Action → ℕ
rank (Shift t) = 0
rank Accept = 0
rank (Reduce r) = r

module _ (G : Grammar) (A : Automaton) where
  -- An action of the cell: a shift for a move by the word, an accept where rule 0 has its dot before the end mark, a reduction for each rule whose lookahead has the word.
  pub data Holds : ℕ → ℕ → Action → Type 0 where
    may_shift : {s w t : ℕ} → IsTerminal G w → A.goto s w ≡ Some t → Holds s w (Shift t)
    may_accept : {s : ℕ} → A.has s 0 1 ≡ true → Holds s 0 Accept
    may_reduce : {s w r : ℕ} → IsRule G r → Lookahead G A s r w → Holds s w (Reduce r)

  -- No cell has two actions.
  abbrev pub ConflictFree : Type 0
  ConflictFree = (s w : ℕ) (a b : Action) → Holds s w a → Holds s w b → a ≡ b

  -- The first cell with two actions, and its first two: lowest state, then lowest word, shift or accept before rules by number.
  pub record FirstConflict (s w : ℕ) (a b : Action) : Type 0 where
    pub first : Holds s w a
    pub second : Holds s w b
    pub order : rank a < rank b
    pub least : (c : Action) → Holds s w c → rank c < rank b → c ≡ a
    pub earlier : (p v : ℕ) (c d : Action) → Earlier p v s w → Holds p v c → Holds p v d → c ≡ d

  -- The cells as a function.
  abbrev pub Exact : (ℕ → ℕ → Option Action) → Type 0
  Exact cells = (s w : ℕ) (a : Action) → (cells s w ≡ Some a) ↔ Holds s w a
