-- What building a grammar comes to.
use Rattle.std.specs.Prelude.{◌≡◌, ℕ, ◌<◌, ◌≤◌, length, Option}
use Rattle.grammar.specs.Grammar.{Grammar, IsRule, IsNonterminal, AllCodes, left_side, right_side}
use Rattle.grammar.specs.States.{Automaton, Numbered, Crowded}
use Rattle.grammar.specs.Cells.{FirstConflict, Exact}
use Rattle.grammar.specs.Useful.{Useless}
use Rattle.grammar.specs.Refusals.{Told}
use Rattle.grammar.specs.Refusals as tells
use Rattle.grammar.specs.declared.action.Action.{Action}

-- The counts are within their limits.
pub record Counted (G : Grammar) : Type 0 where
  pub some_terminal : 1 ≤ G.terminals
  pub terminals : G.terminals ≤ 63
  pub some_nonterminal : 1 ≤ G.nonterminals
  pub nonterminals : G.nonterminals ≤ 24
  pub some_rule : 1 ≤ length G.rules
  pub rules : length G.rules ≤ 96

-- The counts and the lengths of the right sides are within their limits.
pub record Within (G : Grammar) : Type 0 where
  pub counts : Counted G
  pub right_sides : (r : ℕ) → IsRule G r → length (right_side G r) ≤ 8

-- The codes of a rule are in range.
pub record InRange (G : Grammar) (r : ℕ) : Type 0 where
  pub left : IsNonterminal G (left_side G r)
  pub right : AllCodes G (right_side G r)

-- The lowest rule with a code out of range.
pub record LowestOutOfRange (G : Grammar) (r : ℕ) : Type 0 where
  pub is_rule : IsRule G r
  pub out : InRange G r → ⊥
  pub lower : (q : ℕ) → IsRule G q → q < r → InRange G q

-- The lowest useless nonterminal.
pub record LowestUseless (G : Grammar) (X : ℕ) : Type 0 where
  pub useless : Useless G X
  pub lower : (Y : ℕ) → Useless G Y → X ≤ Y

-- All codes are in range, and no nonterminal is useless.
pub record Sound (G : Grammar) : Type 0 where
  pub in_range : (r : ℕ) → IsRule G r → InRange G r
  pub useful : (X : ℕ) → Useless G X → ⊥

-- Refused, with what is told, or built: how many states, how they hang together, and their cells.
pub data Built : Type 0 where
  refused : Told → Built
  built : ℕ → Automaton → (ℕ → ℕ → Option Action) → Built

-- The outcome of building a grammar: causes are tried in this order.
pub data Outcome (G : Grammar) : Built → Type 0 where
  off_limits : (Within G → ⊥) → Outcome G (refused tells.limits)
  out_of_range : {r : ℕ} → Within G → LowestOutOfRange G r → Outcome G (refused (tells.range r))
  useless :
      {X : ℕ}
      → Within G
      → ((r : ℕ) → IsRule G r → InRange G r)
      → LowestUseless G X
      → Outcome G (refused (tells.useless X))
  crowded : Within G → Sound G → Crowded G → Outcome G (refused tells.states)
  conflicting :
      {n s w : ℕ} {A : Automaton} {a b : Action}
      → Within G
      → Sound G
      → n ≤ 96
      → Numbered G n A
      → FirstConflict G A s w a b
      → Outcome G (refused (tells.conflict s w a b))
  done :
      {n : ℕ} {A : Automaton} {cells : ℕ → ℕ → Option Action}
      → Within G
      → Sound G
      → n ≤ 96
      → Numbered G n A
      → Exact G A cells
      → Outcome G (built n A cells)

-- Two outcomes are the same, tables by their cells.
pub data SameBuilt : Built → Built → Type 0 where
  same_refusal : {e : Told} → SameBuilt (refused e) (refused e)
  same_tables : {n : ℕ} {A B : Automaton} {cells dells : ℕ → ℕ → Option Action} → ((s r d : ℕ) → A.has s r d ≡ B.has s r d) → ((s X : ℕ) → A.goto s X ≡ B.goto s X) → ((s w : ℕ) → cells s w ≡ dells s w) → SameBuilt (built n A cells) (built n B dells)
