-- The machine gets behind each word of what it accepts, whatever comes next.
use Rattle.std.proofs.Common.{◌≡◌, ℕ, List, [], ◌∷◌, ◌++◌, length, drop, sym, ap, ◌∙◌, subst, append_assoc, Some}
use mathlib.Core.List.{head-eq_of_cons-eq, tail-eq_of_cons-eq, nil≢cons}
use Rattle.grammar.specs.Grammar.{Grammar, Valid, left_side, right_side}
use Rattle.grammar.specs.Derivation.{Begins}
use Rattle.grammar.specs.States.{Automaton, Laws}
use Rattle.grammar.specs.Cells.{Holds}
use Rattle.grammar.specs.Machine.{Run, halt, Accepts, accept, shift, reduce}
use Rattle.grammar.specs.declared.action.Action.TheVariants.{Shift, Reduce}
use Rattle.grammar.proofs.Sentences.{accepts_derivation}

pub no_middle : (us : List ℕ) (w : ℕ) (k : List ℕ) → [] ≡ us ++ w ∷ k → ⊥
no_middle [] w k e = nil≢cons e
no_middle (u ∷ us) w k e = nil≢cons e

-- Behind the last place of a list there is nothing.
last_place : (us : List ℕ) (w : ℕ) (k : List ℕ) {a : ℕ} → a ∷ [] ≡ us ++ w ∷ k → k ≡ []
last_place [] w k e = sym (tail-eq_of_cons-eq e)
last_place (u ∷ us) w k e = absurd (no_middle us w k (tail-eq_of_cons-eq e))

-- From a stack the machine gets behind the words us and w, whatever comes next.
abbrev Behind : Grammar → Automaton → List ℕ → List ℕ → ℕ → Type 0
Behind G A σ us w = (j : List ℕ) → (ps τ : List ℕ) × Run G A σ (us ++ w ∷ j) ps τ j

module _ {G : Grammar} {A : Automaton} where
  behind_shift : {s a t : ℕ} {σ i : List ℕ} (us : List ℕ) (w : ℕ) (k : List ℕ) → a ∷ i ≡ us ++ w ∷ k → Holds G A s a (Shift t) → ((vs : List ℕ) → i ≡ vs ++ w ∷ k → Behind G A (t ∷ s ∷ σ) vs w) → Behind G A (s ∷ σ) us w
  behind_shift {s} {t = t} {σ} [] w k e h f j = ([], t ∷ s ∷ σ, shift (subst (λ n. Holds G A s n (Shift t)) (head-eq_of_cons-eq e) h) halt)
  behind_shift {s} {t = t} {σ} (u ∷ us) w k e h f j =
      let y = f us (tail-eq_of_cons-eq e) j in
      (y.0, y.1, shift (subst (λ n. Holds G A s n (Shift t)) (head-eq_of_cons-eq e) h) y.2)

  behind_reduce : {s a r q t : ℕ} {σ ρ i : List ℕ} (us : List ℕ) (w : ℕ) (k : List ℕ) → a ∷ i ≡ us ++ w ∷ k → Holds G A s a (Reduce r) → drop (length (right_side G r)) (s ∷ σ) ≡ q ∷ ρ → A.goto q (left_side G r) ≡ Some t → Behind G A (t ∷ q ∷ ρ) us w → Behind G A (s ∷ σ) us w
  behind_reduce {s} {r = r} [] w k e h d g f j = let y = f j in (r ∷ y.0, y.1, reduce (subst (λ n. Holds G A s n (Reduce r)) (head-eq_of_cons-eq e) h) d g y.2)
  behind_reduce {s} {r = r} (u ∷ us) w k e h d g f j = let y = f j in (r ∷ y.0, y.1, reduce (subst (λ n. Holds G A s n (Reduce r)) (head-eq_of_cons-eq e) h) d g y.2)

  behind : {σ i ps : List ℕ} → Accepts G A σ i ps → (us : List ℕ) (w : ℕ) (k : List ℕ) → i ≡ us ++ w ∷ k → (k ≡ [] → ⊥) → Behind G A σ us w
  behind (accept h) us w k e n = absurd (n (last_place us w k e))
  behind (shift h x) us w k e n = behind_shift us w k e h (λ vs f. behind x vs w k f n)
  behind (reduce h d g x) us w k e n = behind_reduce us w k e h d g (behind x us w k e n)

  pub taken : Valid G → Laws G A → (ws j : List ℕ) (w : ℕ) → Begins G (ws ++ w ∷ []) → (ps τ : List ℕ) × Run G A (0 ∷ []) (ws ++ w ∷ j) ps τ j
  taken v L ws j w b =
      let z = b.0 in
      let x = accepts_derivation v L b.1.0 ((ws ++ w ∷ []) ++ z) b.1.1 in
      behind x ws w (z ++ 0 ∷ []) (ap (λ l. l ++ 0 ∷ []) (append_assoc ws (w ∷ []) z) ∙ append_assoc ws (w ∷ z) (0 ∷ [])) (λ e. no_middle z 0 [] (sym e)) j
