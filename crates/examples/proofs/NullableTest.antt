-- A list of codes that passes the test has exactly the nullable ones.
use Rattle.std.proofs.Common.{◌≡◌, ℕ, Bool, true, false, not, ◌||◌, eqb, List, [], ◌∷◌, ◌++◌, length, refl, subst, arith, length-append}
use Rattle.std.specs.List.{list_all}
use mathlib.Core.Bool.{false≢true}
use Rattle.std.proofs.lemmas.Bool.{and_parts, and_from}
use Rattle.std.proofs.lemmas.List.Elements.{All-nil, All-cons, All-head, All-tail}
use Rattle.grammar.specs.Grammar.{Grammar, IsRule, left_side, right_side}
use Rattle.grammar.specs.Trees.{Forest, empty, leaf, node, Tree, Nullable, AllNullable}
use Rattle.examples.proofs.Tests.{implies, all_at, member, numbers, mem_from, conj, passed}
use Rattle.examples.proofs.Ordered.{ordered}
use Rattle.examples.proofs.Codes.{rule_numbers, rule_number}
use Rattle.examples.proofs.Derived.{derivable, all_derived, tree}

-- No word is free: what is derived is the empty list.
abbrev no_word : ℕ → Bool
no_word w = false

no_words : (ws : List ℕ) → list_all no_word ws ≡ true → ws ≡ []
no_words [] h = refl
no_words (w ∷ ws) h = absurd (false≢true h)

-- The left side of a rule whose codes are all listed is listed.
abbrev closed_under : Grammar → List ℕ → ℕ → Bool
closed_under G l r = not (list_all (member eqb l) (right_side G r)) || member eqb l (left_side G r)

unfoldable pub nullable_tests : Grammar → List ℕ → List Bool
nullable_tests G l = ordered (derivable G no_word) [] l ∷ list_all (closed_under G l) (rule_numbers G) ∷ []

module _ (G : Grammar) (l : List ℕ) (ok : conj (nullable_tests G l) ≡ true) where
  pub nullable_from : (X : ℕ) → member eqb l X ≡ true → Nullable G X
  unfolding nullable_tests
  nullable_from X h =
      let t = all_derived G no_word l (passed (nullable_tests G l) ok 0) X (mem_from numbers l X h) in
      (t.rules ++ t.rule ∷ [], subst (λ ws. Tree G X ws (t.rules ++ t.rule ∷ [])) (no_words t.words t.free_words) (tree G no_word t))

  closed : (r : ℕ) → IsRule G r → list_all (member eqb l) (right_side G r) ≡ true → member eqb l (left_side G r) ≡ true
  unfolding nullable_tests
  closed r i h = implies (list_all (member eqb l) (right_side G r)) (member eqb l (left_side G r)) (all_at (closed_under G l) (rule_numbers G) (passed (nullable_tests G l) ok 1) (rule_number G i)) h

  listed : {Xs ws ps : List ℕ} → Forest G Xs ws ps → length ws ≡ 0 → list_all (member eqb l) Xs ≡ true
  listed empty e = refl
  listed (leaf i f) e = absurd (omega arith)
  listed (node {r = r} {Xs = Xs} {ws = ws} {vs = vs} i f g) e =
      let n = length-append ws vs in
      and_from (member eqb l (left_side G r)) (list_all (member eqb l) Xs) (closed r i (listed f (omega arith))) (listed g (omega arith))

  pub nullable_to : (X : ℕ) → Nullable G X → member eqb l X ≡ true
  nullable_to X n = (and_parts (member eqb l X) true (listed n.1 refl)).0

  pub all_nullable_from : (Xs : List ℕ) → list_all (member eqb l) Xs ≡ true → AllNullable G Xs
  all_nullable_from [] h = All-nil (Nullable G)
  all_nullable_from (X ∷ Xs) h = let p = and_parts (member eqb l X) (list_all (member eqb l) Xs) h in All-cons (Nullable G) X Xs (nullable_from X p.0) (all_nullable_from Xs p.1)

  pub all_nullable_to : (Xs : List ℕ) → AllNullable G Xs → list_all (member eqb l) Xs ≡ true
  all_nullable_to [] n = refl
  all_nullable_to (X ∷ Xs) n = and_from (member eqb l X) (list_all (member eqb l) Xs) (nullable_to X (All-head (Nullable G) X Xs n)) (all_nullable_to Xs (All-tail (Nullable G) X Xs n))
