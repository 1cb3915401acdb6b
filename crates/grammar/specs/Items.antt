-- Items, and the sets of items that are states. An item is a rule with a dot somewhere in its right side, from 0 in front.
use Rattle.std.specs.Prelude.{◌≡◌, ℕ, zero, suc, Bool, true, false, ◌&&◌, ◌==◌, Option, Some, None, slice_get}
use Rattle.grammar.specs.Grammar.{Grammar, IsRule, left_side, right_side}

-- The code behind the dot of the item (r, d).
abbrev pub CodeAt : Grammar → ℕ → ℕ → ℕ → Type 0
CodeAt G r d X = slice_get (right_side G r) d ≡ Some X

-- A set of items, by rule and dot.
abbrev pub Items : Type 0
Items = ℕ → ℕ → Bool

-- Two sets have the same items.
abbrev pub Same : Items → Items → Type 0
Same S T = (r d : ℕ) → S r d ≡ T r d

-- The items of a set, and, where one has its dot before a nonterminal, all rules of that nonterminal with the dot in front.
pub data Closure (G : Grammar) (K : Items) : ℕ → ℕ → Type 0 where
  given : {r d : ℕ} → K r d ≡ true → Closure G K r d
  begun : {r d q : ℕ} → Closure G K r d → CodeAt G r d (left_side G q) → IsRule G q → Closure G K q 0

-- S is the set K completed.
pub record Completes (G : Grammar) (K S : Items) : Type 0 where
  pub sound : (r d : ℕ) → S r d ≡ true → Closure G K r d
  pub whole : (r d : ℕ) → Closure G K r d → S r d ≡ true

-- Rule 0 with the dot in front, alone.
abbrev pub origin : Items
origin r d = r == 0 && d == 0

abbrev pub code_is : Option ℕ → ℕ → Bool
code_is None X = false
code_is (Some Y) X = Y == X

-- The items with the dot before a code, with the dot put behind it.
abbrev pub behind : Grammar → Items → ℕ → Items
behind G S X r zero = false
behind G S X r (suc d) = S r d && code_is (slice_get (right_side G r) d) X

-- A move by a code leads from the set S to the set T.
abbrev pub Move : Grammar → Items → ℕ → Items → Type 0
Move G S X T = Completes G (behind G S X) T

-- Some item of the set has its dot before the code.
pub record Waits (G : Grammar) (S : Items) (X : ℕ) : Type 0 where
  pub rule : ℕ
  pub dot : ℕ
  pub has : S rule dot ≡ true
  pub code : CodeAt G rule dot X
