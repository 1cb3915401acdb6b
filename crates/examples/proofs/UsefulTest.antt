-- Lists of codes that show that no nonterminal is useless.
use Rattle.std.proofs.Common.{◌≡◌, ℕ, suc, Bool, true, ◌&&◌, ◌||◌, eqb, ◌⊎◌, List, [], ◌∷◌, ◌++◌, sym, ap, subst, inl, inr, arith, Some, slice_get}
use Rattle.std.specs.List.{list_any, list_all}
use mathlib.Core.Bool.{false≢true}
use Rattle.std.proofs.lemmas.Bool.{and_parts, or_cases, eqb-true}
use Rattle.grammar.specs.Grammar.{Grammar, IsNonterminal, left_side, right_side, start}
use Rattle.grammar.specs.Trees.{Productive}
use Rattle.grammar.specs.Useful.{Used, at_start, in_rule, Useless}
use Rattle.examples.proofs.Tests.{range, all_at, any_at, mem_range, member, numbers, mem_from, conj, passed}
use Rattle.examples.proofs.Ordered.{ordered, Each, in_order}
use Rattle.examples.proofs.Codes.{rule_numbers, is_rule_lem}
use Rattle.examples.proofs.Derived.{derivable, all_derived, tree}

-- Every word is free.
abbrev any_word : ℕ → Bool
any_word w = true

-- A code is the start, or stands in a rule of a nonterminal met before.
abbrev reachable : Grammar → List ℕ → ℕ → Bool
reachable G before X = eqb (start G) X || list_any (λ r. member eqb before (left_side G r) && member eqb (right_side G r) X) (rule_numbers G)

unfoldable pub useful_tests : Grammar → List ℕ → List ℕ → List Bool
useful_tests G productive used =
    ordered (derivable G any_word) [] productive
    ∷ ordered (reachable G) [] used
    ∷ list_all (λ X. member eqb productive X && member eqb used X) (range (suc G.terminals) G.nonterminals)
    ∷ []

place_of : (Xs : List ℕ) (X : ℕ) → member eqb Xs X ≡ true → (d : ℕ) × (slice_get Xs d ≡ Some X)
place_of [] X h = absurd (false≢true h)
place_of (Y ∷ Xs) X h = pick (place_of Xs X) (or_cases (eqb X Y) (member eqb Xs X) h)
  where
    pick : (member eqb Xs X ≡ true → (d : ℕ) × (slice_get Xs d ≡ Some X)) → (eqb X Y ≡ true) ⊎ (member eqb Xs X ≡ true) → (d : ℕ) × (slice_get (Y ∷ Xs) d ≡ Some X)
    pick k (inl e) = (0, ap Some (sym (eqb-true X Y e)))
    pick k (inr e) = let z = k e in (suc z.0, z.1)

module _ (G : Grammar) where
  reason : (before : List ℕ) (X : ℕ) → Each (Used G) before → reachable G before X ≡ true → Used G X
  reason before X k h = pick (or_cases (eqb (start G) X) _ h)
    where
      pick : (eqb (start G) X ≡ true) ⊎ (list_any (λ r. member eqb before (left_side G r) && member eqb (right_side G r) X) (rule_numbers G) ≡ true) → Used G X
      pick (inl e) = subst (Used G) (eqb-true (start G) X e) at_start
      pick (inr e) =
          let z = any_at (λ r. member eqb before (left_side G r) && member eqb (right_side G r) X) (rule_numbers G) e in
          let p = and_parts (member eqb before (left_side G z.0)) (member eqb (right_side G z.0) X) z.2 in
          let d = place_of (right_side G z.0) X p.1 in
          in_rule d.0 (is_rule_lem G z.1) (k (left_side G z.0) (mem_from numbers before _ p.0)) d.1

  module _ (productive used : List ℕ) (ok : conj (useful_tests G productive used) ≡ true) where
    in_both : (X : ℕ) → IsNonterminal G X → (member eqb productive X ≡ true) × (member eqb used X ≡ true)
    unfolding useful_tests
    in_both X i =
        and_parts (member eqb productive X) (member eqb used X)
        (all_at (λ X. member eqb productive X && member eqb used X) (range (suc G.terminals) G.nonterminals) (passed (useful_tests G productive used) ok 2) (mem_range (suc G.terminals) G.nonterminals X i.low (omega (arith, i.high))))

    pub is_productive : (X : ℕ) → IsNonterminal G X → Productive G X
    unfolding useful_tests
    is_productive X i =
        let t = all_derived G any_word productive (passed (useful_tests G productive used) ok 0) X (mem_from numbers productive X (in_both X i).0) in
        (t.words, t.rules ++ t.rule ∷ [], tree G any_word t)

    pub is_used : (X : ℕ) → IsNonterminal G X → Used G X
    unfolding useful_tests
    is_used X i = in_order (Used G) (reachable G) reason used (passed (useful_tests G productive used) ok 1) X (mem_from numbers used X (in_both X i).1)

    pub none_useless : (X : ℕ) → Useless G X → ⊥
    none_useless X u = pick u.fault
      where
        pick : (Productive G X → ⊥) ⊎ (Used G X → ⊥) → ⊥
        pick (inl f) = f (is_productive X u.nonterminal)
        pick (inr f) = f (is_used X u.nonterminal)
