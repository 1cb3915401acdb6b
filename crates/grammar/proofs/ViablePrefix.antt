-- What the machine has taken begins a sentence, where every nonterminal is productive.
use Rattle.std.proofs.Common.{◌≡◌, ℕ, zero, suc, ◌≤◌, List, [], ◌∷◌, ◌++◌, length, drop, sym, refl, ap, ◌∙◌, subst, subst₂, inl, inr, append_assoc, append-nil, arith}
use Rattle.std.proofs.lemmas.List.Elements.{All-nil, All-cons, All-head, All-tail, All-drop}
use native.Mathlib.Decide.{dec_le}
use lib.ListN.{get_or-eq_default}
use Rattle.grammar.specs.Grammar.{Grammar, no_rule, IsRule, IsSymbol, AllCodes, Valid, left_side, right_side, start}
use Rattle.grammar.specs.Trees.{Forest, empty, leaf, node, Productive, TreeOf, AllProductive}
use Rattle.grammar.specs.States.{Automaton, Laws, Made, moved, at_origin, closure}
use Rattle.grammar.specs.Machine.{Run, Spells, bottom, push}
use Rattle.grammar.proofs.ListParts.{drop_at_code}
use Rattle.grammar.proofs.Forests.{join, Split, split}
use Rattle.grammar.proofs.Dots.{Has}
use Rattle.grammar.proofs.SpelledStacks.{at_bottom, stands_at}

module _ {G : Grammar} (valid : Valid G) (productive : AllProductive G) where
  right_past : (i : ℕ) → ¬ (suc i ≤ length G.rules) → right_side G (suc i) ≡ []
  unfolding right_side no_rule
  right_past i h = ap (λ c. c.right) (get_or-eq_default G.rules no_rule (omega arith))

  -- Terminals and nonterminals stand on every right side; a number that is no rule has none.
  codes_past : (i : ℕ) → Dec (suc i ≤ length G.rules) → AllCodes G (right_side G (suc i))
  codes_past i (yes h) = valid.rights (suc i) (record { low = omega arith; high = h })
  codes_past i (no h) = rw (right_past i h) (All-nil (IsSymbol G))

  codes_start : AllCodes G (right_side G 0)
  unfolding right_side start
  codes_start = All-cons (IsSymbol G) (start G) [] (inr (record { low = omega arith; high = omega (arith, valid.some_nonterminal) })) (All-nil (IsSymbol G))

  codes_of : (r : ℕ) → AllCodes G (right_side G r)
  codes_of zero = codes_start
  codes_of (suc i) = codes_past i (dec_le (suc i) (length G.rules))

  some_tree : (X : ℕ) → IsSymbol G X → Productive G X
  some_tree X (inl h) = (X ∷ [], [], leaf h empty)
  some_tree X (inr h) = productive X h

  some_forest : (Xs : List ℕ) → AllCodes G Xs → (ws ps : List ℕ) × Forest G Xs ws ps
  some_forest [] h = ([], [], empty)
  some_forest (X ∷ Xs) h =
      let t = some_tree X (All-head (IsSymbol G) X Xs h) in
      let f = some_forest Xs (All-tail (IsSymbol G) X Xs h) in
      (t.0 ++ f.0, t.1 ++ f.1, join t.2 f.2)

  -- Words that make a sentence of whatever γ and then β derive.
  abbrev Ends : List ℕ → List ℕ → Type 0
  Ends γ β = (z : List ℕ) × ((us ps : List ℕ) → Forest G (γ ++ β) us ps → (qs : List ℕ) × TreeOf G (us ++ z) qs)

  -- A rule's right side in the place of its left side, with some words for what stands behind.
  ends_closure : (γ : List ℕ) {q : ℕ} {β vs ps : List ℕ} → IsRule G q → Forest G β vs ps → Ends γ (left_side G q ∷ β) → Ends γ (right_side G q)
  ends_closure γ {q} {β} {vs} {ps} i f e = (vs ++ e.0, λ us qs g. put us qs (split γ (right_side G q) g refl))
    where
      put : (us qs : List ℕ) → Split G γ (right_side G q) us qs → (rs : List ℕ) × TreeOf G (us ++ (vs ++ e.0)) rs
      put us qs s =
          let k = e.1 (s.words_front ++ (s.words_back ++ vs)) (s.rules_front ++ (s.rules_back ++ q ∷ ps)) (join s.front (node i s.back f)) in
          (k.0, subst (λ l. TreeOf G l k.0) (regroup s) k.1)
        where
          regroup : (s : Split G γ (right_side G q) us qs) → (s.words_front ++ (s.words_back ++ vs)) ++ e.0 ≡ us ++ (vs ++ e.0)
          regroup s = simp append_assoc (sym (append_assoc s.words_front s.words_back (vs ++ e.0)) ∙ ap (λ l. l ++ (vs ++ e.0)) (sym s.words_are))

  ends_origin : {γ : List ℕ} → γ ≡ [] → Ends γ (right_side G 0)
  unfolding right_side
  ends_origin e = ([], λ us ps f. (ps, subst₂ (λ a b. Forest G (a ++ start G ∷ []) b ps) e (sym (append-nil us)) f))

  ends_push : (γ : List ℕ) (X : ℕ) (β : List ℕ) → Ends γ (X ∷ β) → Ends (γ ++ X ∷ []) β
  ends_push γ X β e = rw (← append_assoc γ (X ∷ []) β) at e

  module _ {A : Automaton} (L : Laws G A) where
    ends_made : {γ σ : List ℕ} {s r d : ℕ} → Made G A.has s r d → Spells G A γ (s ∷ σ) → ((r d : ℕ) → Has A s r (suc d) → Ends γ (drop (suc d) (right_side G r))) → Ends γ (drop d (right_side G r))
    ends_made (moved {r = r} {d = d} h) x k = k r d h
    ends_made at_origin x k = ends_origin (at_bottom L x refl)
    ends_made {γ} (closure {r = r} {d = d} {q = q} m c i) x k =
        let e = ends_made m x k in
        ends_closure γ i (some_forest (drop (suc d) (right_side G r)) (All-drop (IsSymbol G) (suc d) (right_side G r) (codes_of r))).2 (rw (drop_at_code (right_side G r) d (left_side G q) c) at e)

    ends : {γ σ : List ℕ} {s r d : ℕ} → Spells G A γ (s ∷ σ) → Has A s r d → Ends γ (drop d (right_side G r))
    ends bottom h = ends_made (L.made h) bottom (λ r d k. absurd (L.fresh k))
    ends (push {X = X} {γ = γ} x g) h = ends_made (L.made h) (push x g) (λ r d k. ends_push γ X (drop (suc d) (right_side G r)) (rw (drop_at_code (right_side G r) d X (L.came g k).0) at (ends x (L.came g k).1)))

    some_item : {γ σ : List ℕ} {s : ℕ} → Spells G A γ (s ∷ σ) → (r d : ℕ) × Has A s r d
    some_item bottom = (0, 0, L.first)
    some_item (push x g) = let t = L.target g in (t.0, suc t.1, t.2)

    finish : {γ us out : List ℕ} (β : List ℕ) → AllCodes G β → Ends γ β → Forest G γ us out → (z qs : List ℕ) × TreeOf G (us ++ z) qs
    finish {us = us} {out} β h e f =
        let g = some_forest β h in
        let k = e.1 (us ++ g.0) (out ++ g.1) (join f g.2) in
        (g.0 ++ e.0, k.0, rw append_assoc at k.1)

    -- What the codes of a stack derive begins a sentence.
    viable : {γ σ us out : List ℕ} {s : ℕ} → Spells G A γ (s ∷ σ) → Forest G γ us out → (z qs : List ℕ) × TreeOf G (us ++ z) qs
    viable x f =
        let t = some_item x in
        finish (drop t.1 (right_side G t.0)) (All-drop (IsSymbol G) t.1 (right_side G t.0) (codes_of t.0)) (ends x t.2) f

    viable_stack : {γ σ us out : List ℕ} → Spells G A γ σ → Forest G γ us out → (z qs : List ℕ) × TreeOf G (us ++ z) qs
    viable_stack bottom f = viable bottom f
    viable_stack (push x g) f = viable (push x g) f

    -- The words that the machine has taken begin a sentence.
    pub prefix_tree : (ws : List ℕ) {j ps τ : List ℕ} → Run G A (0 ∷ []) (ws ++ j) ps τ j → (z qs : List ℕ) × TreeOf G (ws ++ z) qs
    prefix_tree ws r = let y = stands_at L ws r in viable_stack y.spells y.forest
