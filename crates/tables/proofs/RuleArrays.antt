-- The grammar that rules in arrays stand for: its rules are those of the arrays, within the limits and with all codes in range.
use Rattle.std.proofs.Common.{◌≡◌, ℕ, zero, suc, ◌+◌, ◌*◌, ◌<◌, ◌≤◌, All, [], ◌∷◌, length, get_or, drop, sym, refl, ap, ◌∙◌, inl, inr, add-zero, arith, length-drop, length-take}
use Rattle.std.proofs.lemmas.List.{get_or_past, get_or-take, get_or-drop}
use Rattle.std.proofs.lemmas.List.Elements.{All-take, All-drop, All-from_get_or}
use Rattle.std.proofs.lemmas.Bool.{cases_lt}
use Rattle.grammar.specs.Grammar.{IsRule, AllCodes, Valid, start, no_rule, left_side, right_side}
use Rattle.grammar.specs.Outcome.{Within, InRange}
use Rattle.grammar.specs.ItemLists.{Laid}
use Rattle.grammar.proofs.Codes.{valid, each_code}
use Rattle.tables.specs.declared.rules.Rules.{Rules}
use Rattle.tables.specs.Arrays.{codes_at, rule_at, rules_from, grammar_of}

module _ (R : Rules) where
  from_length : (r k : ℕ) → length (rules_from R r k) ≡ k
  unfolding rules_from
  from_length r zero = refl
  from_length r (suc k) = ap suc (from_length (suc r) k)

  from_at : (r k i : ℕ) → i < k → get_or (rules_from R r k) i no_rule ≡ rule_at R (r + i)
  unfolding rules_from
  from_at r zero i h = absurd (omega arith)
  from_at r (suc k) zero h = ap (rule_at R) (sym (add-zero r))
  from_at r (suc k) (suc i) h =
      from_at (suc r) k i (omega arith) ∙ ap (rule_at R) (let e : suc r + i ≡ r + suc i = omega arith in e)

  pub terminals_is : (grammar_of R).terminals ≡ R.terminals
  unfolding grammar_of
  terminals_is = refl

  pub nonterminals_is : (grammar_of R).nonterminals ≡ R.nonterminals
  unfolding grammar_of
  nonterminals_is = refl

  pub rules_count : length (grammar_of R).rules ≡ R.count
  unfolding grammar_of
  rules_count = from_length 1 R.count

  -- The rules of the grammar are those up to the count.
  pub is_rule_lem : (r : ℕ) → 1 ≤ r → r ≤ R.count → IsRule (grammar_of R) r
  is_rule_lem r low high = record { low = low; high = omega (arith, rules_count) }

  pub rule_high : (r : ℕ) → IsRule (grammar_of R) r → r ≤ R.count
  rule_high r i = omega (arith, i.high, rules_count)

  rule_at_lem : (i : ℕ) → i < R.count → get_or (grammar_of R).rules i no_rule ≡ rule_at R (suc i)
  unfolding grammar_of
  rule_at_lem i h = from_at 1 R.count i h ∙ ap (rule_at R) (let e : 1 + i ≡ suc i = omega arith in e)

  pub left_is : (r : ℕ) → IsRule (grammar_of R) r → get_or R.left r 0 ≡ left_side (grammar_of R) r
  unfolding left_side rule_at
  left_is zero i = absurd (omega (arith, i.low))
  left_is (suc r) i = sym (ap (λ x. x.left) (rule_at_lem r (omega (arith, rule_high (suc r) i))))

  -- The right side of rule 0 is the start alone, of a rule up to the count a part of the array, and of any other nothing.
  right_first : right_side (grammar_of R) 0 ≡ suc R.terminals ∷ []
  unfolding right_side start grammar_of
  right_first = refl

  right_part : (i : ℕ) → i < R.count → right_side (grammar_of R) (suc i) ≡ codes_at R (suc i)
  unfolding right_side rule_at
  right_part i h = ap (λ x. x.right) (rule_at_lem i h)

  pub right_is : (r : ℕ) → IsRule (grammar_of R) r → right_side (grammar_of R) r ≡ codes_at R r
  right_is zero i = absurd (omega (arith, i.low))
  right_is (suc r) i = right_part r (omega (arith, rule_high (suc r) i))

  -- Its codes are low enough to count marks by.
  pub codes_below : (r : ℕ) → All (λ code. code < 88) (codes_at R r)
  codes_below r = All-take (λ code. code < 88) (get_or R.size r 0) (drop (9 * r) R.right) (All-drop (λ code. code < 88) (9 * r) R.right (All-from_get_or (λ code. code < 88) R.right 0 (λ k h. omega (arith, R.below k, R.terminals63, R.nonterminals24))))

  pub codes_length : (r : ℕ) → r ≤ R.count → length (codes_at R r) ≡ get_or R.size r 0
  codes_length r h = simp (length-take, length-drop) (omega (arith, R.short r, R.count96, R.rightlength))

  pub codes_get : (r d : ℕ) → d < get_or R.size r 0 → get_or (codes_at R r) d 0 ≡ get_or R.right (9 * r + d) 0
  codes_get r d l = get_or-take (get_or R.size r 0) (drop (9 * r) R.right) d 0 l ∙ get_or-drop (9 * r) R.right d 0

  right_none : (i : ℕ) → R.count ≤ i → right_side (grammar_of R) (suc i) ≡ []
  unfolding right_side no_rule
  right_none i h = ap (λ x. x.right) (get_or_past (grammar_of R).rules i no_rule (omega (arith, rules_count)))

  -- Of every rule, 0 too, the codes of the array are those of the grammar, and 0 at the end.
  pub right_length : (r : ℕ) → r ≤ R.count → length (right_side (grammar_of R) r) ≡ get_or R.size r 0
  right_length zero h = ap length right_first ∙ sym R.firstsize
  right_length (suc i) h =
      ap length (right_part i (omega arith)) ∙ codes_length (suc i) h

  -- Behind the last code of a right side the array has 0.
  at_end : (r d : ℕ) → d < 9 → get_or R.size r 0 ≤ d → length (right_side (grammar_of R) r) ≤ d → get_or R.right (9 * r + d) 0 ≡ get_or (right_side (grammar_of R) r) d 0
  at_end r d l h k = omega (arith, R.ended r d h l, get_or_past (right_side (grammar_of R) r) d 0 k)

  pub right_code : (r d : ℕ) → d < 9 → get_or R.right (9 * r + d) 0 ≡ get_or (right_side (grammar_of R) r) d 0
  right_code zero zero l = R.firstcode ∙ (let e : R.terminals + 1 ≡ suc R.terminals = omega arith in e) ∙ sym (ap (λ x. get_or x 0 0) right_first)
  right_code zero (suc d) l = at_end 0 (suc d) l (omega (arith, R.firstsize)) (omega (arith, ap length right_first))
  right_code (suc i) d l =
      elim (cases_lt i R.count) [
        | inl h ↦ elim (cases_lt d (get_or R.size (suc i) 0)) [
          | inl k ↦ sym (ap (λ x. get_or x d 0) (right_part i h) ∙ codes_get (suc i) d k)
          | inr k ↦ at_end (suc i) d l k (omega (arith, right_length (suc i) (omega arith)))
        ]
        | inr h ↦ at_end (suc i) d l (omega (arith, R.past (suc i) (omega arith))) (omega (arith, ap length (right_none i h)))
      ]

  pub laid_rules : Laid (grammar_of R) R.left R.right
  laid_rules = record { left = left_is; code = right_code }

  right_codes : (r : ℕ) → IsRule (grammar_of R) r → AllCodes (grammar_of R) (right_side (grammar_of R) r)
  right_codes r i =
      each_code (grammar_of R) (right_side (grammar_of R) r) λ d l.
      let h = rule_high r i in
      let k : d < get_or R.size r 0 = omega (arith, right_length r h) in
      let e = right_code r d (omega (arith, R.short r)) in
      (omega (arith, e, R.inside r d h k), omega (arith, e, R.below (9 * r + d), terminals_is, nonterminals_is))

  pub in_range_rules : (r : ℕ) → IsRule (grammar_of R) r → InRange (grammar_of R) r
  in_range_rules r i =
      record {
        left = record {
          low = omega (arith, left_is r i, R.lefts r i.low (rule_high r i), terminals_is);
          high = omega (arith, left_is r i, R.leftsbelow r, terminals_is, nonterminals_is);
        };
        right = right_codes r i;
      }

  pub within_rules : Within (grammar_of R)
  within_rules =
      record {
        counts = record {
          some_terminal = omega (arith, R.terminals1, terminals_is);
          terminals = omega (arith, R.terminals63, terminals_is);
          some_nonterminal = omega (arith, R.nonterminals1, nonterminals_is);
          nonterminals = omega (arith, R.nonterminals24, nonterminals_is);
          some_rule = omega (arith, R.count1, rules_count);
          rules = omega (arith, R.count96, rules_count);
        };
        right_sides = λ r i. omega (arith, right_length r (rule_high r i), R.short r);
      }

  pub valid_rules : Valid (grammar_of R)
  valid_rules = valid (grammar_of R) within_rules in_range_rules
