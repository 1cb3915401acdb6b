-- The machine with its limits: what its end says of runs, and that it goes along with whatever is accepted.
use Rattle.std.proofs.Common.{◌≡◌, ℕ, zero, suc, ◌<◌, ◌≤◌, List, [], ◌∷◌, length, drop, sym, refl, ap, subst, suc-le-suc, arith, Option, Some, None}
use mathlib.Core.List.{cons≢nil}
use Rattle.grammar.specs.Grammar.{Grammar, left_side, right_side}
use Rattle.grammar.specs.States.{Automaton}
use Rattle.grammar.specs.Cells.{Holds, ConflictFree, Exact}
use Rattle.grammar.specs.Machine.{Goes, Run, halt, Accepts, accept, shift, reduce}
use Rattle.grammar.specs.Line.{Ended, stuck, full, shifted, accepted, noted, act, put_on, go_on, runs}
use Rattle.grammar.specs.declared.action.Action.{Action}
use Rattle.grammar.specs.declared.action.Action.TheVariants.{Shift, Accept, Reduce}

module _ (G : Grammar) (A : Automaton) where
  -- What an end at w says of runs from the stack σ, where there was room for n rules.
  abbrev pub Says : ℕ → ℕ → List ℕ → Ended → Type 0
  Says n w σ stuck = Unit {0}
  Says n w σ full = (k : List ℕ) → (ps : List ℕ) × (s : ℕ) × (τ : List ℕ) × (r : ℕ) × Run G A σ (w ∷ k) ps (s ∷ τ) (w ∷ k) × Holds G A s w (Reduce r) × (length ps ≡ n)
  Says n w σ (shifted τ ps) = ((k : List ℕ) → Run G A σ (w ∷ k) ps τ k) × (length ps ≤ n)
  Says n w σ (accepted τ ps) = Run G A σ (w ∷ []) ps τ (w ∷ []) × Accepts G A σ (w ∷ []) ps × (length ps ≤ n)

  -- How an end agrees with accepting the input i behind the word, by the rules qs.
  abbrev pub Agrees : ℕ → List ℕ → List ℕ → Ended → Type 0
  Agrees n i qs stuck = ⊥
  Agrees n i qs full = n < length qs
  Agrees n i qs (shifted τ ps) = i ≡ [] → ⊥
  Agrees n i qs (accepted τ ps) = i ≡ []

  module _ (w s r n : ℕ) (σ : List ℕ) (h : Holds G A s w (Reduce r)) where
    says_noted : (q t : ℕ) (ρ : List ℕ) → drop (length (right_side G r)) (s ∷ σ) ≡ q ∷ ρ → A.goto q (left_side G r) ≡ Some t → (o : Ended) → Says n w (t ∷ q ∷ ρ) o → Says (suc n) w (s ∷ σ) (noted r o)
    says_noted q t ρ d g stuck x = tt
    says_noted q t ρ d g full x = λ k. let y = x k in (r ∷ y.0, y.1, y.2, y.3, Goes.reduce h d g y.4, y.5, ap suc y.6)
    says_noted q t ρ d g (shifted τ ps) x = (λ k. Goes.reduce h d g (x.0 k), suc-le-suc x.1)
    says_noted q t ρ d g (accepted τ ps) x = (Goes.reduce h d g x.0, Accepts.reduce h d g x.1, suc-le-suc x.2)

    module _ (next : List ℕ → Ended) (says_next : (τ : List ℕ) → Says n w τ (next τ)) where
      says_put : (q : ℕ) (ρ : List ℕ) → drop (length (right_side G r)) (s ∷ σ) ≡ q ∷ ρ → (o : Option ℕ) → A.goto q (left_side G r) ≡ o → Says (suc n) w (s ∷ σ) (put_on next r (q ∷ ρ) o)
      says_put q ρ d None g = tt
      says_put q ρ d (Some t) g = says_noted q t ρ d g (next (t ∷ q ∷ ρ)) (says_next (t ∷ q ∷ ρ))

      says_on : (l : List ℕ) → drop (length (right_side G r)) (s ∷ σ) ≡ l → Says (suc n) w (s ∷ σ) (go_on G A next r l)
      says_on [] d = tt
      says_on (q ∷ ρ) d = says_put q ρ d (A.goto q (left_side G r)) refl

agrees_noted : (G : Grammar) (A : Automaton) (n r : ℕ) (i qs : List ℕ) (o : Ended) → Agrees G A n i qs o → Agrees G A (suc n) i (r ∷ qs) (noted r o)
agrees_noted G A n r i qs stuck x = x
agrees_noted G A n r i qs full x = suc-le-suc x
agrees_noted G A n r i qs (shifted τ ps) x = x
agrees_noted G A n r i qs (accepted τ ps) x = x

-- Nothing is accepted without the end mark.
no_end : {G : Grammar} {A : Automaton} {σ i ps : List ℕ} → Accepts G A σ i ps → i ≡ [] → ⊥
no_end (accept h) e = cons≢nil e
no_end (shift h x) e = cons≢nil e
no_end (reduce h d g x) e = cons≢nil e

module _ (G : Grammar) (A : Automaton) (cells : ℕ → ℕ → Option Action) (exact : Exact G A cells) where
  pub conflict_free : ConflictFree G A
  conflict_free s w a b h k = cc ((exact s w a).1 h, (exact s w b).1 k)

  says_act : (w s n : ℕ) (σ : List ℕ) (f : ℕ → Ended) → ((r : ℕ) → Holds G A s w (Reduce r) → Says G A n w (s ∷ σ) (f r)) → (o : Option Action) → cells s w ≡ o → Says G A n w (s ∷ σ) (act (s ∷ σ) f o)
  says_act w s n σ f x None e = tt
  says_act w s n σ f x (Some (Shift t)) e = (λ k. Goes.shift ((exact s w (Shift t)).0 e) halt, omega arith)
  says_act w s n σ f x (Some (Reduce r)) e = x r ((exact s w (Reduce r)).0 e)
  says_act w s n σ f x (Some Accept) e = (halt, Accepts.accept ((exact s w Accept).0 e), omega arith)

  pub says : (n w : ℕ) (σ : List ℕ) → Says G A n w σ (runs G A cells n w σ)
  unfolding runs
  says zero w [] = tt
  says zero w (s ∷ σ) = says_act w s 0 σ (λ r. full) (λ r h k. ([], s, σ, r, halt, h, refl)) (cells s w) refl
  says (suc n) w [] = tt
  says (suc n) w (s ∷ σ) = says_act w s (suc n) σ (λ r. go_on G A (runs G A cells n w) r (drop (length (right_side G r)) (s ∷ σ))) (λ r h. says_on G A w s r n σ h (runs G A cells n w) (says n w) (drop (length (right_side G r)) (s ∷ σ)) refl) (cells s w) refl

  pub agrees : (n : ℕ) {w : ℕ} {σ i qs : List ℕ} → Accepts G A σ (w ∷ i) qs → Agrees G A n i qs (runs G A cells n w σ)
  unfolding runs
  agrees zero {w} (accept {s = s} {σ = σ} h) = subst (λ o. Agrees G A 0 [] [] (act (s ∷ σ) (λ r. full) o)) (sym ((exact s w Accept).1 h)) refl
  agrees zero {w} (shift {s = s} {t = t} {σ = σ} {i = i} {ps = ps} h x) = subst (λ o. Agrees G A 0 i ps (act (s ∷ σ) (λ r. full) o)) (sym ((exact s w (Shift t)).1 h)) (no_end x)
  agrees zero {w} (reduce {s = s} {r = r} {σ = σ} {i = i} {ps = ps} h d g x) = subst (λ o. Agrees G A 0 i (r ∷ ps) (act (s ∷ σ) (λ r. full) o)) (sym ((exact s w (Reduce r)).1 h)) (omega arith)
  agrees (suc n) {w} (accept {s = s} {σ = σ} h) = subst (λ o. Agrees G A (suc n) [] [] (act (s ∷ σ) (λ r. go_on G A (runs G A cells n w) r (drop (length (right_side G r)) (s ∷ σ))) o)) (sym ((exact s w Accept).1 h)) refl
  agrees (suc n) {w} (shift {s = s} {t = t} {σ = σ} {i = i} {ps = ps} h x) = subst (λ o. Agrees G A (suc n) i ps (act (s ∷ σ) (λ r. go_on G A (runs G A cells n w) r (drop (length (right_side G r)) (s ∷ σ))) o)) (sym ((exact s w (Shift t)).1 h)) (no_end x)
  agrees (suc n) {w} (reduce {s = s} {r = r} {q = q} {t = t} {σ = σ} {ρ = ρ} {i = i} {ps = ps} h d g x) =
      subst (λ o. Agrees G A (suc n) i (r ∷ ps) (act (s ∷ σ) (λ r. go_on G A (runs G A cells n w) r (drop (length (right_side G r)) (s ∷ σ))) o)) (sym ((exact s w (Reduce r)).1 h))
      (subst (λ l. Agrees G A (suc n) i (r ∷ ps) (go_on G A (runs G A cells n w) r l)) (sym d)
      (subst (λ o. Agrees G A (suc n) i (r ∷ ps) (put_on (runs G A cells n w) r (q ∷ ρ) o)) (sym g)
      (agrees_noted G A n r i ps (runs G A cells n w (t ∷ q ∷ ρ)) (agrees n x))))
