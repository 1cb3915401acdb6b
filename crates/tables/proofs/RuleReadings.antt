-- Which numbers are those of rules in arrays.
use Rattle.std.proofs.Common.{◌≡◌, ℕ, ◌<◌, ◌≤◌, true, false, cond, leb, ◌⊎◌, length, sym, inl, inr, arith, Some, None}
use Rattle.std.proofs.lemmas.Bool.{and_from, and_left, and_right, le-leb, lt-leb, cond-true, cond-false}
use Rattle.grammar.specs.Derivation.{is_rule}
use Rattle.tables.specs.declared.rules.Rules.{Rules}
use Rattle.tables.specs.Arrays.{grammar_of}
use Rattle.tables.proofs.RuleArrays.{rules_count, is_rule_lem}

module _ (R : Rules) (r : ℕ) where
  pub rule_told : 1 ≤ r → r ≤ R.count → is_rule (grammar_of R) r ≡ true
  rule_told low high =
      and_from (leb 1 r) (leb r (length (grammar_of R).rules)) (le-leb 1 r low) (le-leb r (length (grammar_of R).rules) (is_rule_lem R r low high).high)

  no_rule_told : (r ≤ 0) ⊎ (R.count < r) → is_rule (grammar_of R) r ≡ false
  no_rule_told (inl h) = and_left (leb 1 r) (leb r (length (grammar_of R).rules)) (lt-leb 1 r (omega arith))
  no_rule_told (inr h) =
      and_right (leb 1 r) (leb r (length (grammar_of R).rules)) (lt-leb r (length (grammar_of R).rules) (omega (arith, rules_count R)))

  pub at_rule : (x : ℕ) → 1 ≤ r → r ≤ R.count → Some x ≡ cond (is_rule (grammar_of R) r) (Some x) None
  at_rule x low high = sym (cond-true (is_rule (grammar_of R) r) (Some x) None (rule_told low high))

  pub at_none : (x : ℕ) → (r ≤ 0) ⊎ (R.count < r) → None ≡ cond (is_rule (grammar_of R) r) (Some x) None
  at_none x h = sym (cond-false (is_rule (grammar_of R) r) (Some x) None (no_rule_told h))
