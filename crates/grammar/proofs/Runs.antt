-- Runs of the machine, one after another, and that they agree where no cell has two actions.
use Rattle.std.proofs.Common.{◌≡◌, ℕ, ◌≤◌, ◌⊎◌, List, [], ◌∷◌, ◌++◌, length, drop, sym, refl, ap, ◌∙◌, subst, ap₂, inl, inr, ⊎_elim, append-nil, suc-le-suc, arith, Some}
use mathlib.Core.List.{head-eq_of_cons-eq}
use Rattle.grammar.specs.Grammar.{Grammar, left_side, right_side}
use Rattle.grammar.specs.States.{Automaton}
use Rattle.grammar.specs.Cells.{Holds, ConflictFree}
use Rattle.grammar.specs.Machine.{Goes, Run, halt, Accepts, accept, shift, reduce}
use Rattle.grammar.specs.declared.action.Action.TheVariants.{Shift, Accept, Reduce}
use Rattle.grammar.proofs.Dots.{one_target}

pub same_shift : {t u : ℕ} → Shift t ≡ Shift u → t ≡ u
same_shift e = cc

pub same_reduce : {r q : ℕ} → Reduce r ≡ Reduce q → r ≡ q
same_reduce e = cc

module _ {G : Grammar} {A : Automaton} where
  -- One run after another.
  pub then : {σ τ υ i j k ps qs : List ℕ} → Run G A σ i ps τ j → Run G A τ j qs υ k → Run G A σ i (ps ++ qs) υ k
  then halt y = y
  then (shift h x) y = shift h (then x y)
  then (reduce h d g x) y = reduce h d g (then x y)

  pub then_accepts : {σ τ i j ps qs : List ℕ} → Run G A σ i ps τ j → Accepts G A τ j qs → Accepts G A σ i (ps ++ qs)
  then_accepts halt y = y
  then_accepts (shift h x) y = Accepts.shift h (then_accepts x y)
  then_accepts (reduce h d g x) y = Accepts.reduce h d g (then_accepts x y)

  -- Accepting is a run to an accept.
  pub run_of : {σ i ps : List ℕ} → Accepts G A σ i ps → (s : ℕ) × (τ : List ℕ) × (w : ℕ) × Run G A σ i ps (s ∷ τ) (w ∷ []) × Holds G A s w Accept
  run_of (accept {s = s} {w = w} {σ = σ} h) = (s, σ, w, halt, h)
  run_of (shift h x) = let y = run_of x in (y.0, y.1, y.2, Goes.shift h y.3, y.4)
  run_of (reduce h d g x) = let y = run_of x in (y.0, y.1, y.2, Goes.reduce h d g y.3, y.4)

  module _ (free : ConflictFree G A) where
    -- Two reductions of one cell leave the same stack.
    same_stack : (σ : List ℕ) {s w r q t r' q' t' : ℕ} {ρ ρ' : List ℕ} → Holds G A s w (Reduce r) → drop (length (right_side G r)) (s ∷ σ) ≡ q ∷ ρ → A.goto q (left_side G r) ≡ Some t → Holds G A s w (Reduce r') → drop (length (right_side G r')) (s ∷ σ) ≡ q' ∷ ρ' → A.goto q' (left_side G r') ≡ Some t' → t' ∷ q' ∷ ρ' ≡ t ∷ q ∷ ρ
    same_stack σ {s} {w} {r} {q} {t} {r'} {q'} {t'} {ρ} {ρ'} h d g k d' g' =
        let e : r ≡ r' = same_reduce (free _ _ _ _ h k) in
        let f : q ∷ ρ ≡ q' ∷ ρ' = sym d ∙ ap (λ n. drop (length (right_side G n)) (s ∷ σ)) e ∙ d' in
        let m : t' ≡ t = one_target g' (ap (λ n. A.goto n (left_side G r')) (sym (head-eq_of_cons-eq f)) ∙ ap (λ n. A.goto q (left_side G n)) (sym e) ∙ g) in
        ap₂ (λ n l. n ∷ l) m (sym f)

    -- Accepting goes on along any run, and the rules noted by the run are the first.
    pub along : {σ i qs τ j ps : List ℕ} → Run G A σ i qs τ j → Accepts G A σ i ps → (rs : List ℕ) × (ps ≡ qs ++ rs) × Accepts G A τ j rs
    along {ps = ps} halt y = (ps, refl, y)
    along (Goes.shift h x) (accept k) = cc (free _ _ _ _ h k)
    along (Goes.shift {s = s} {σ = σ} {i = i} h x) (shift {ps = qs} k y) = along x (subst (λ t. Accepts G A (t ∷ s ∷ σ) i qs) (same_shift (free _ _ _ _ k h)) y)
    along (Goes.shift h x) (reduce k d g y) = cc (free _ _ _ _ h k)
    along (Goes.reduce h d g x) (accept k) = cc (free _ _ _ _ h k)
    along (Goes.reduce h d g x) (shift k y) = cc (free _ _ _ _ k h)
    along (Goes.reduce {w = w} {σ = σ} {i = i} h d g x) (reduce {ps = qs} k d' g' y) =
        let v = along x (subst (λ l. Accepts G A l (w ∷ i) qs) (same_stack σ h d g k d' g') y) in
        (v.0, ap₂ (λ n l. n ∷ l) (sym (same_reduce (free _ _ _ _ h k))) v.1, v.2)

    at_accept : {s w : ℕ} {τ ps : List ℕ} → Holds G A s w Accept → Accepts G A (s ∷ τ) (w ∷ []) ps → ps ≡ []
    at_accept h (accept k) = refl
    at_accept h (shift k x) = cc (free _ _ _ _ k h)
    at_accept h (reduce k d g x) = cc (free _ _ _ _ k h)

    -- An input is accepted with one list of rules.
    pub same_rules : {σ i ps qs : List ℕ} → Accepts G A σ i ps → Accepts G A σ i qs → ps ≡ qs
    same_rules {ps = ps} x y =
        let r = run_of x in
        let v = along r.3 y in
        sym (v.1 ∙ ap (λ l. ps ++ l) (at_accept r.4 v.2) ∙ append-nil ps)

    -- No run over an input notes more rules than one that comes to its end.
    pub most_rules : {σ i ps τ qs υ j : List ℕ} → Run G A σ i ps τ [] → Run G A σ i qs υ j → length qs ≤ length ps
    most_rules x halt = omega arith
    most_rules (Goes.shift h x) (Goes.shift {s = s} {σ = σ} {i = i} {ps = qs} {τ = υ} {j = j} k y) = most_rules x (subst (λ t. Run G A (t ∷ s ∷ σ) i qs υ j) (same_shift (free _ _ _ _ k h)) y)
    most_rules (Goes.reduce h d g x) (Goes.shift k y) = cc (free _ _ _ _ k h)
    most_rules (Goes.shift h x) (Goes.reduce k d g y) = cc (free _ _ _ _ h k)
    most_rules (Goes.reduce h d g x) (Goes.reduce {w = w} {σ = σ} {i = i} {ps = qs} {τ = υ} {j = j} k d' g' y) = suc-le-suc (most_rules x (subst (λ l. Run G A l (w ∷ i) qs υ j) (same_stack σ h d g k d' g') y))

    -- A run notes no more rules than another from the same place, or goes on from where that ends.
    pub onward : {σ i ps τ j qs υ k : List ℕ} → Run G A σ i ps τ j → Run G A σ i qs υ k → (length qs ≤ length ps) ⊎ ((rs : List ℕ) × (qs ≡ ps ++ rs) × Run G A τ j rs υ k)
    onward {qs = qs} halt y = inr (qs, refl, y)
    onward (Goes.shift h x) halt = inl (omega arith)
    onward (Goes.reduce h d g x) halt = inl (omega arith)
    onward (Goes.shift h x) (Goes.shift {s = s} {σ = σ} {i = i} {ps = qs} {τ = υ} {j = k} h' y) = onward x (subst (λ t. Run G A (t ∷ s ∷ σ) i qs υ k) (same_shift (free _ _ _ _ h' h)) y)
    onward (Goes.shift h x) (Goes.reduce h' d g y) = cc (free _ _ _ _ h h')
    onward (Goes.reduce h d g x) (Goes.shift h' y) = cc (free _ _ _ _ h' h)
    onward (Goes.reduce {r = r} h d g x) (Goes.reduce {w = w} {r = r'} {σ = σ} {i = i} {ps = qs} {τ = υ} {j = k} h' d' g' y) =
        ⊎_elim (λ e. inl (suc-le-suc e)) (λ z. inr (z.0, ap₂ (λ n l. n ∷ l) (sym (same_reduce (free _ _ _ _ h h'))) z.1, z.2))
        (onward x (subst (λ l. Run G A l (w ∷ i) qs υ k) (same_stack σ h d g h' d' g') y))
