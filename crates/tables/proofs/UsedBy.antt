-- Walking from a code to what uses it reaches the start exactly where the start uses the code.
use Rattle.std.proofs.Common.{◌≡◌, ℕ, ◌+◌, ◌-◌, ◌*◌, ◌<◌, ◌≤◌, Bool, true, ◌==◌, length, get_or, Some, None, sym, ap, ◌∙◌, subst, inl, inr, arith}
use Rattle.std.specs.List.{list_any, slice_get}
use Rattle.std.proofs.lemmas.List.{get_or_default}
use Rattle.std.proofs.lemmas.List.Folds.{Any-from_list_any, list_any_at}
use Rattle.std.proofs.lemmas.List.FromFn.{length-map-range_with_len, get_or-map-range_with_len}
use Rattle.std.proofs.lemmas.Option.{slice_get-get_or, slice_get_past}
use Rattle.std.proofs.lemmas.Bool.{eq-eqb, eqb-true, cases_Bool, cond-true, cond-false}
use Rattle.grammar.specs.Grammar.{IsRule, start, left_side}
use Rattle.grammar.specs.Items.{CodeAt}
use Rattle.grammar.specs.Useful.{Used, at_start, in_rule}
use Rattle.grammar.proofs.Codes.{code_in_range}
use Rattle.gather.specs.Reach.{Step, Reaches, here, step}
use Rattle.tables.specs.declared.rules.Rules.{Rules}
use Rattle.tables.specs.Arrays.{codes_at, grammar_of}
use Rattle.tables.specs.UsedBy.{user_by, users}
use Rattle.tables.proofs.RuleArrays.{codes_length, codes_get, is_rule_lem, rule_high, left_is, terminals_is, nonterminals_is, valid_rules}
use Rattle.tables.proofs.RuleCodes.{code_there, dot_inside, code_same}

module _ (R : Rules) where
  abbrev stands : ℕ → ℕ → Bool
  stands r X = list_any (λ code. code == X) (codes_at R r)

  code_stands : (r d X : ℕ) → r ≤ R.count → CodeAt (grammar_of R) r d X → stands r X ≡ true
  code_stands r d X h a =
      let l = dot_inside R r d X h a in
      list_any_at (λ code. code == X) (codes_at R r) d 0 (omega (arith, codes_length R r h)) (eq-eqb _ X (codes_get R r d l ∙ code_same R r d X h a))

  stands_code : (r X : ℕ) → r ≤ R.count → stands r X ≡ true → (d : ℕ) × CodeAt (grammar_of R) r d X
  stands_code r X h t =
      let w = Any-from_list_any (λ code. code == X) (codes_at R r) t in
      let l : w.0 < get_or R.size r 0 = omega (arith, w.2, codes_length R r h) in
      let is : get_or R.right (9 * r + w.0) 0 ≡ X = sym (codes_get R r w.0 l) ∙ get_or_default (codes_at R r) w.0 0 w.1 w.2 ∙ w.3 ∙ eqb-true w.1 X w.4 in
      (w.0, subst (λ Y. CodeAt (grammar_of R) r w.0 Y) is (code_there R r w.0 h l))

  -- The list of what uses a code.
  pub users_length : (X : ℕ) → length (users R X) ≡ R.count
  unfolding users
  users_length X = length-map-range_with_len (user_by R X) 1 R.count

  user_at : (X k : ℕ) → k < R.count → get_or (users R X) k 0 ≡ user_by R X (k + 1)
  unfolding users
  user_at X k l = get_or-map-range_with_len (user_by R X) 1 R.count k (k + 1) 0 l (omega arith)

  pub users_past : (X k : ℕ) → R.count ≤ k → None ≡ slice_get (users R X) k
  users_past X k h = sym (slice_get_past (users R X) k (omega (arith, users_length X)))

  pub users_told : (X k u : ℕ) → k < R.count → u ≡ user_by R X (k + 1) → Some u ≡ slice_get (users R X) k
  users_told X k u l is =
      sym (slice_get-get_or (users R X) k 0 (omega (arith, users_length X)) ∙ ap Some (user_at X k l ∙ sym is))

  -- A rule with the code on its right is a step to its left side, and any other step stays.
  module _ (n : ℕ) (e : n ≡ 88) where
    step_to : (r d X : ℕ) → IsRule (grammar_of R) r → CodeAt (grammar_of R) r d X → Step n (users R) X (left_side (grammar_of R) r)
    unfolding user_by
    step_to r d X i a =
        let high = rule_high R r i in
        let k : r - 1 < R.count = omega (arith, i.low) in
        let z : r - 1 + 1 ≡ r = omega (arith, i.low) in
        let left = left_is R r i in
        record {
          inside = omega (arith, left, R.leftsbelow r, R.terminals63, R.nonterminals24);
          nr = r - 1;
          listed = omega (arith, users_length X);
          there = user_at X (r - 1) k ∙ ap (user_by R X) z ∙ cond-true (stands r X) (get_or R.left r 0) X (code_stands r d X high a) ∙ left;
        }

    step_used : (X t : ℕ) → Step n (users R) X t → Used (grammar_of R) t → Used (grammar_of R) X
    unfolding user_by
    step_used X t s u =
        let r = s.nr + 1 in
        let k : s.nr < R.count = omega (arith, s.listed, users_length X) in
        let i = is_rule_lem R r (omega arith) (omega arith) in
        let is : user_by R X r ≡ t = sym (user_at X s.nr k) ∙ s.there in
        elim (cases_Bool (stands r X)) [
          | inl h ↦
              let w = stands_code r X (omega arith) h in
              in_rule w.0 i (subst (λ Z. Used (grammar_of R) Z) (sym is ∙ cond-true (stands r X) (get_or R.left r 0) X h ∙ left_is R r i) u) w.1
          | inr h ↦ subst (λ Z. Used (grammar_of R) Z) (sym is ∙ cond-false (stands r X) (get_or R.left r 0) X h) u
        ]

    pub used_reaches : {X : ℕ} → Used (grammar_of R) X → Reaches n (users R) X (start (grammar_of R))
    used_reaches at_start = here
    used_reaches (in_rule {r = r} {X = X} d i u a) = step (step_to r d X i a) (used_reaches u)

    pub reaches_used : {X Y : ℕ} → Reaches n (users R) X Y → Y ≡ start (grammar_of R) → Used (grammar_of R) X
    reaches_used here z = subst (λ Z. Used (grammar_of R) Z) (sym z) at_start
    reaches_used (step {i = X} {t = t} s p) z = step_used X t s (reaches_used p z)

  -- The start uses codes alone.
  pub used_below : {X : ℕ} → Used (grammar_of R) X → X ≤ R.terminals + R.nonterminals
  unfolding start
  used_below at_start = omega (arith, terminals_is R, R.nonterminals1)
  used_below (in_rule {r = r} {X = X} d i u a) = omega (arith, (code_in_range (grammar_of R) (valid_rules R) r d X a).high, terminals_is R, nonterminals_is R)
