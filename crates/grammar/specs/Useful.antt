-- Nonterminals that are of use: they derive words, and the start uses them.
use Rattle.std.specs.Prelude.{◌≡◌, ℕ, ◌⊎◌, Some, slice_get}
use Rattle.grammar.specs.Grammar.{Grammar, IsRule, IsNonterminal, left_side, right_side, start}
use Rattle.grammar.specs.Trees.{Productive}

-- The codes reached from the start: it, and all codes in rules of what is reached.
pub data Used (G : Grammar) : ℕ → Type 0 where
  at_start : Used G (start G)
  in_rule : {r X : ℕ} (d : ℕ) → IsRule G r → Used G (left_side G r) → slice_get (right_side G r) d ≡ Some X → Used G X

-- A nonterminal that derives no list of words, or is not reached from the start.
pub record Useless (G : Grammar) (X : ℕ) : Type 0 where
  pub nonterminal : IsNonterminal G X
  pub fault : (Productive G X → ⊥) ⊎ (Used G X → ⊥)
