-- Trees of a grammar, listed side by side as forests.
use Rattle.std.specs.Prelude.{ℕ, List, [], ◌∷◌, ◌++◌, All}
use Rattle.grammar.specs.Grammar.{Grammar, IsTerminal, IsRule, IsNonterminal, left_side, right_side, start}

-- Forest G Xs ws ps: trees with the codes Xs at their roots and the words ws at their leaves; ps are the rules used, in post-order.
pub data Forest (G : Grammar) : List ℕ → List ℕ → List ℕ → Type 0 where
  empty : Forest G [] [] []
  leaf : {w : ℕ} {Xs ws ps : List ℕ} → IsTerminal G w → Forest G Xs ws ps → Forest G (w ∷ Xs) (w ∷ ws) ps
  node : {r : ℕ} {Xs ws vs ps qs : List ℕ} → IsRule G r → Forest G (right_side G r) ws ps → Forest G Xs vs qs → Forest G (left_side G r ∷ Xs) (ws ++ vs) (ps ++ r ∷ qs)

-- A tree is a forest of one.
abbrev pub Tree : Grammar → ℕ → List ℕ → List ℕ → Type 0
Tree G X ws ps = Forest G (X ∷ []) ws ps

-- A tree of the start over the words, with its rules in post-order.
abbrev pub TreeOf : Grammar → List ℕ → List ℕ → Type 0
TreeOf G ws ps = Tree G (start G) ws ps

-- The code derives the empty list.
abbrev pub Nullable : Grammar → ℕ → Type 0
Nullable G X = (ps : List ℕ) × Tree G X [] ps

abbrev pub AllNullable : Grammar → List ℕ → Type 0
AllNullable G Xs = All (Nullable G) Xs

-- The code derives some list of words.
abbrev pub Productive : Grammar → ℕ → Type 0
Productive G X = (ws ps : List ℕ) × Tree G X ws ps

abbrev pub AllProductive : Grammar → Type 0
AllProductive G = (X : ℕ) → IsNonterminal G X → Productive G X
