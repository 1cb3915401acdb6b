-- Where states in arrays lead, and which items they have.
use Rattle.std.proofs.Common.{◌≡◌, ℕ, ◌+◌, ◌*◌, ◌<◌, ◌≤◌, Bool, true, false, ◌&&◌, ltb, leb, get_or, sym, ap, ◌∙◌, subst, inl, inr, arith, Some, None}
use Rattle.std.specs.Bool.{then_some}
use Rattle.std.proofs.lemmas.Bool.{and_parts, and_from, and_left, and_right, ltb-true, ltb-false, leb-true, lt-ltb, le-ltb, le-leb, lt-leb, cond-true, cond-false, cases_Bool}
use Rattle.std.proofs.lemmas.Option.{same_Some, none-some}
use Rattle.grammar.specs.Grammar.{Grammar}
use Rattle.grammar.specs.StateLists.{state_at, goto_at, has_at, leads_at}
use Rattle.grammar.proofs.ItemLists.{held}
use Rattle.tables.specs.declared.rules.Rules.{Rules}
use Rattle.tables.specs.declared.states.States.{States}
use Rattle.tables.specs.Arrays.{grammar_of, automaton}
use Rattle.tables.proofs.RuleArrays.{terminals_is, nonterminals_is}

-- A move: from a state, by a code, to a state.
pub record Moves (R : Rules) (S : States) (s X t : ℕ) : Type 0 where
  pub from : s < S.count
  pub low : 1 ≤ X
  pub high : X ≤ R.terminals + R.nonterminals
  pub to : t < S.count

module _ (R : Rules) (S : States) where
  abbrev G : Grammar
  G = grammar_of R

  abbrev n : ℕ
  n = S.count

  abbrev entry : ℕ → ℕ → ℕ
  entry s X = goto_at S.gotos s X

  abbrev top : ℕ
  top = G.terminals + G.nonterminals

  abbrev test : ℕ → ℕ → Bool
  test s X = ltb s n && (leb 1 X && (leb X top && ltb (entry s X) n))

  codes_count : top ≡ R.terminals + R.nonterminals
  codes_count = ap (λ t. t + G.nonterminals) (terminals_is R) ∙ ap (λ m. R.terminals + m) (nonterminals_is R)

  pub goto_moves : (s X t : ℕ) → (automaton R S).goto s X ≡ Some t → Moves R S s X t
  unfolding leads_at
  goto_moves s X t e =
      elim (cases_Bool (test s X)) [
        | inl b ↦
            (let p = and_parts (ltb s n) _ b in
            let q = and_parts (leb 1 X) _ p.1 in
            let u = and_parts (leb X top) _ q.1 in
            let same : entry s X ≡ t = same_Some _ _ (sym (cond-true (test s X) (Some (entry s X)) None b) ∙ e) in
            record {
              from = ltb-true s n p.0;
              low = leb-true 1 X q.0;
              high = subst (λ m. X ≤ m) codes_count (leb-true X top u.0);
              to = subst (λ m. m < n) same (ltb-true (entry s X) n u.1);
            })
        | inr b ↦ absurd (none-some _ (sym (cond-false (test s X) (Some (entry s X)) None b) ∙ e))
      ]

  pub goto_target : (s X t : ℕ) → Some t ≡ (automaton R S).goto s X → t < n
  goto_target s X t e = (goto_moves s X t (sym e)).to

  goto_some : (s X : ℕ) → s < n → 1 ≤ X → X ≤ R.terminals + R.nonterminals → entry s X < n → Some (entry s X) ≡ (automaton R S).goto s X
  unfolding leads_at
  goto_some s X l low high b =
      sym (cond-true (test s X) (Some (entry s X)) None (and_from (ltb s n) _ (lt-ltb s n l) (and_from (leb 1 X) _ (le-leb 1 X low) (and_from (leb X top) _ (le-leb X top (subst (λ m. X ≤ m) (sym codes_count) high)) (lt-ltb (entry s X) n b)))))

  goto_fails : (s X : ℕ) → test s X ≡ false → None ≡ (automaton R S).goto s X
  unfolding leads_at
  goto_fails s X b = sym (cond-false (test s X) (Some (entry s X)) None b)

  pub goto_past : (s X : ℕ) → n ≤ s → None ≡ (automaton R S).goto s X
  goto_past s X h = goto_fails s X (and_left (ltb s n) _ (le-ltb s n h))

  pub goto_low : (s X : ℕ) → X ≤ 0 → None ≡ (automaton R S).goto s X
  goto_low s X h = goto_fails s X (and_right (ltb s n) _ (and_left (leb 1 X) _ (lt-leb 1 X (omega arith))))

  pub goto_high : (s X : ℕ) → R.terminals + R.nonterminals < X → None ≡ (automaton R S).goto s X
  goto_high s X h =
      goto_fails s X (and_right (ltb s n) _ (and_right (leb 1 X) _ (and_left (leb X top) _ (lt-leb X top (subst (λ m. m < X) (sym codes_count) h)))))

  goto_nowhere : (s X : ℕ) → n ≤ entry s X → None ≡ (automaton R S).goto s X
  goto_nowhere s X h =
      goto_fails s X (and_right (ltb s n) _ (and_right (leb 1 X) _ (and_right (leb X top) _ (le-ltb (entry s X) n h))))

  -- The entry is told where it is a state's number.
  pub goto_told : (s X : ℕ) → s < n → 1 ≤ X → X ≤ R.terminals + R.nonterminals → then_some (ltb (entry s X) n) (entry s X) ≡ (automaton R S).goto s X
  goto_told s X l low high =
      elim (cases_Bool (ltb (entry s X) n)) [
        | inl t ↦ ap (λ b. then_some b (entry s X)) t ∙ goto_some s X l low high (ltb-true (entry s X) n t)
        | inr f ↦ ap (λ b. then_some b (entry s X)) f ∙ goto_nowhere s X (ltb-false (entry s X) n f)
      ]

  pub one_goto : (s X : ℕ) {t u : ℕ} → (automaton R S).goto s X ≡ Some t → (automaton R S).goto s X ≡ Some u → t ≡ u
  one_goto s X e f = same_Some _ _ (sym e ∙ f)

  -- An item of a state, in its list.
  pub has_item : (s r d : ℕ) → (automaton R S).has s r d ≡ true → (s < n) × (get_or (state_at S.sets s) (9 * r + d) false ≡ true)
  unfolding has_at
  has_item s r d e =
      let p = and_parts (ltb s n) _ e in (ltb-true s n p.0, (held (state_at S.sets s) r d p.1).item)
