-- Lists of items that complete a set.
use Rattle.std.proofs.Common.{◌≡◌, ℕ, Bool, true, not, ◌&&◌, ◌||◌, eqb, ◌⊎◌, List, [], sym, subst, inl, inr, slice_get}
use Rattle.std.proofs.lemmas.Bool.{and_parts, or_cases, eqb-true}
use Rattle.std.specs.List.{list_any, list_all}
use Rattle.grammar.proofs.Completion.{code_is_lem, is_code}
use Rattle.grammar.proofs.FormSteps.{rule_is}
use Rattle.grammar.specs.Grammar.{Grammar, left_side, right_side}
use Rattle.grammar.specs.Derivation.{is_rule}
use Rattle.grammar.specs.Items.{Items, Closure, given, begun, Completes, code_is}
use Rattle.examples.specs.Tables.{same_pair}
use Rattle.examples.proofs.Tests.{implies, all_at, any_at, member, pairs, mem_from}
use Rattle.examples.proofs.Ordered.{ordered, Each, in_order}
use Rattle.examples.proofs.Codes.{rule_numbers, rule_number}

-- The items of a list, as a set.
abbrev pub set_of : List (ℕ × ℕ) → Items
set_of l r d = member same_pair l (r, d)

-- The item has its dot before the code.
abbrev pub dot_before : Grammar → ℕ → ℕ × ℕ → Bool
dot_before G X x = code_is (slice_get (right_side G x.0) x.1) X

-- An item is of the set, or a rule with the dot in front whose left side an earlier item has behind its dot.
abbrev pub comes_in : Grammar → Items → List (ℕ × ℕ) → ℕ × ℕ → Bool
comes_in G K before x = K x.0 x.1 || eqb x.1 0 && (is_rule G x.0 && list_any (dot_before G (left_side G x.0)) before)

abbrev brings : Grammar → List (ℕ × ℕ) → ℕ × ℕ → ℕ → Bool
brings G l x q = not (dot_before G (left_side G q) x) || set_of l q 0

-- With each item that has its dot before a nonterminal, the rules of that nonterminal are listed.
abbrev pub closed_items : Grammar → List (ℕ × ℕ) → Bool
closed_items G l = list_all (λ x. list_all (brings G l x) (rule_numbers G)) l

module _ (G : Grammar) (K : Items) (l : List (ℕ × ℕ)) where
  InClosure : ℕ × ℕ → Type 0
  InClosure x = Closure G K x.0 x.1

  reason : (before : List (ℕ × ℕ)) (x : ℕ × ℕ) → Each InClosure before → comes_in G K before x ≡ true → InClosure x
  unfolding InClosure
  reason before x k h = pick (or_cases (K x.0 x.1) _ h)
    where
      pick : (K x.0 x.1 ≡ true) ⊎ ((eqb x.1 0 && (is_rule G x.0 && list_any (dot_before G (left_side G x.0)) before)) ≡ true) → Closure G K x.0 x.1
      pick (inl e) = given e
      pick (inr e) =
          let p = and_parts (eqb x.1 0) _ e in
          let q = and_parts (is_rule G x.0) _ p.1 in
          let z = any_at (dot_before G (left_side G x.0)) before q.1 in
          subst (Closure G K x.0) (sym (eqb-true x.1 0 p.0)) (begun (k z.0 z.1) (code_is_lem _ _ z.2) (rule_is G x.0 q.0))

  module _ (closed : closed_items G l ≡ true) (first : (r d : ℕ) → K r d ≡ true → set_of l r d ≡ true) where
    whole : (r d : ℕ) → Closure G K r d → set_of l r d ≡ true
    whole r d (given h) = first r d h
    whole q d (begun {r = r} {d = e} c a i) =
        implies (dot_before G (left_side G q) (r, e)) (set_of l q 0)
        (all_at (brings G l (r, e)) (rule_numbers G) (all_at (λ x. list_all (brings G l x) (rule_numbers G)) l closed (mem_from pairs l (r, e) (whole r e c))) (rule_number G i)) (is_code _ _ a)

    pub completes : ordered (comes_in G K) [] l ≡ true → Completes G K (set_of l)
    unfolding InClosure
    completes o = record { sound = λ r d h. in_order InClosure (comes_in G K) reason l o (r, d) (mem_from pairs l (r, d) h); whole = whole }
