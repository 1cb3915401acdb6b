-- Codes and rule numbers, told by tests.
use Rattle.std.proofs.Common.{◌≡◌, ℕ, ◌+◌, Bool, true, ◌&&◌, ltb, leb, List, length, refl, arith, Option, Some, None, is_some}
use mathlib.Core.Bool.{false≢true}
use mathlib.Core.List.{Memᴰ}
use Rattle.std.proofs.lemmas.Bool.{and_parts, and_from, leb-true, le-leb, ltb-true, lt-ltb}
use Rattle.grammar.specs.Grammar.{Grammar, IsNonterminal, IsRule}
use Rattle.examples.proofs.Tests.{range, range_bounds, mem_range}

module _ (G : Grammar) where
  abbrev pub is_nonterminal : ℕ → Bool
  is_nonterminal X = ltb G.terminals X && leb X (G.terminals + G.nonterminals)

  pub nonterminal_from : (X : ℕ) → is_nonterminal X ≡ true → IsNonterminal G X
  nonterminal_from X h =
      let p = and_parts (ltb G.terminals X) (leb X (G.terminals + G.nonterminals)) h in
      record { low = ltb-true G.terminals X p.0; high = leb-true X (G.terminals + G.nonterminals) p.1 }

  pub nonterminal_to : (X : ℕ) → IsNonterminal G X → is_nonterminal X ≡ true
  nonterminal_to X i =
      and_from (ltb G.terminals X) (leb X (G.terminals + G.nonterminals)) (lt-ltb G.terminals X i.low) (le-leb X (G.terminals + G.nonterminals) i.high)

  -- The numbers of the rules.
  abbrev pub rule_numbers : List ℕ
  rule_numbers = range 1 (length G.rules)

  pub is_rule_lem : {r : ℕ} → Memᴰ r rule_numbers → IsRule G r
  is_rule_lem m = let b = range_bounds 1 (length G.rules) m in record { low = b.0; high = omega (arith, b.1) }

  pub rule_number : {r : ℕ} → IsRule G r → Memᴰ r rule_numbers
  rule_number {r} i = mem_range 1 (length G.rules) r i.low (omega (arith, i.high))

-- There is a value.
pub found_from : (o : Option ℕ) → is_some o ≡ true → (u : ℕ) × (o ≡ Some u)
found_from None h = absurd (false≢true h)
found_from (Some u) h = (u, refl)

pub found_to : (o : Option ℕ) (u : ℕ) → o ≡ Some u → is_some o ≡ true
found_to o u e = rw e refl
