-- The stack spells codes that derive the words taken, by the rules noted; so what is accepted is a sentence.
use Rattle.std.proofs.Common.{◌≡◌, ℕ, zero, suc, List, [], ◌∷◌, ◌++◌, length, take, drop, sym, refl, ap, ◌∙◌, subst, ap₂, subst₂, append_assoc, append-nil, arith, Some}
use mathlib.Core.List.{append_cancel_right}
use lib.Seq.{take-length}
use Rattle.grammar.specs.Grammar.{Grammar, IsRule, left_side, right_side, start}
use Rattle.grammar.specs.Trees.{Forest, empty, leaf, TreeOf}
use Rattle.grammar.specs.States.{Automaton, Laws, Made, moved, at_origin, closure}
use Rattle.grammar.specs.Cells.{Holds, may_shift, may_accept}
use Rattle.grammar.specs.Machine.{Run, halt, shift, reduce, Accepts, accept, AcceptsWords, Spells, bottom, push}
use Rattle.grammar.specs.declared.action.Action.TheVariants.{Shift, Accept, Reduce}
use Rattle.grammar.proofs.ListParts.{take_suc_at}
use Rattle.grammar.proofs.Forests.{join, Split, split, tree}
use Rattle.grammar.proofs.Dots.{Has}
use Rattle.grammar.proofs.Reductions.{reduction}
use Rattle.grammar.proofs.FollowedTrees.{right_of_0}

module _ {G : Grammar} {A : Automaton} (L : Laws G A) where
  made_has : {s r d : ℕ} → Made G A.has s r d → Has A s r d
  made_has (moved h) = h
  made_has at_origin = L.first
  made_has (closure m c i) = L.closed (made_has m) c i

  -- No code leads to state 0.
  pub at_bottom : {γ σ : List ℕ} {s : ℕ} → Spells G A γ (s ∷ σ) → s ≡ 0 → γ ≡ []
  at_bottom bottom e = refl
  at_bottom (push x g) e = let t = L.target g in absurd (L.fresh (subst (λ n. Has A n t.0 (suc t.1)) e t.2))

  -- The stack below an item: the codes before its dot were put on last.
  record Unwound (γ σ : List ℕ) (r d : ℕ) : Type 0 where
    codes : List ℕ
    base : ℕ
    below : List ℕ
    is : γ ≡ codes ++ take d (right_side G r)
    taken_off : drop d σ ≡ base ∷ below
    spells : Spells G A codes (base ∷ below)
    begun : Has A base r 0

  unwind : (d : ℕ) {γ σ : List ℕ} {s r : ℕ} → Spells G A γ (s ∷ σ) → Has A s r d → Unwound γ (s ∷ σ) r d
  unwind zero {γ} {σ} {s} x h = record { codes = γ; base = s; below = σ; is = sym (append-nil γ); taken_off = refl; spells = x; begun = h }
  unwind (suc d) bottom h = absurd (L.fresh h)
  unwind (suc d) {r = r} (push {X = X} x g) h =
      let c = L.came g h in
      let u = unwind d x c.1 in
      record {
        codes = u.codes;
        base = u.base;
        below = u.below;
        is = ap (λ l. l ++ X ∷ []) u.is ∙ append_assoc u.codes (take d (right_side G r)) (X ∷ []) ∙ ap (λ l. u.codes ++ l) (sym (take_suc_at (right_side G r) d X c.0));
        taken_off = u.taken_off;
        spells = u.spells;
        begun = u.begun;
      }

  -- A rule with the dot in front came in by closure, so the state moves by its left side.
  moves_made : {s r d : ℕ} → IsRule G r → Made G A.has s r d → d ≡ 0 → (t : ℕ) × (A.goto s (left_side G r) ≡ Some t)
  moves_made i (moved h) e = absurd (omega arith)
  moves_made i at_origin e = absurd (omega arith)
  moves_made i (closure m c j) e = let k = L.moves (made_has m) c in (k.0, k.1)

  -- A reduction finds its states on the stack and its goto.
  pub can_reduce : {γ σ : List ℕ} {s w r : ℕ} → Spells G A γ (s ∷ σ) → Holds G A s w (Reduce r) → (q : ℕ) × (ρ : List ℕ) × (t : ℕ) × (drop (length (right_side G r)) (s ∷ σ) ≡ q ∷ ρ) × (A.goto q (left_side G r) ≡ Some t)
  can_reduce {r = r} x h =
      let i = reduction L h in
      let u = unwind (length (right_side G r)) x i.1 in
      let g = moves_made i.0 (L.made u.begun) refl in
      (u.base, u.below, g.0, u.taken_off, g.1)

  -- Where the machine stands behind the words us with the rules ps noted.
  pub record Stands (σ us ps : List ℕ) : Type 0 where
    pub codes : List ℕ
    pub spells : Spells G A codes σ
    pub forest : Forest G codes us ps

  pub begin : Stands (0 ∷ []) [] []
  begin = record { codes = []; spells = bottom; forest = empty }

  pub stands_shift : {s w t : ℕ} {σ us ps : List ℕ} → Holds G A s w (Shift t) → Stands (s ∷ σ) us ps → Stands (t ∷ s ∷ σ) (us ++ w ∷ []) ps
  stands_shift {w = w} (may_shift h g) x = record { codes = x.codes ++ w ∷ []; spells = push x.spells g; forest = rw append-nil at (join x.forest (leaf h empty)) }

  -- The trees of a right side become one tree of the left side.
  joined : {γ σ ρ us ps : List ℕ} {r q t : ℕ} → IsRule G r → (u : Unwound γ σ r (length (right_side G r))) → u.base ∷ u.below ≡ q ∷ ρ → A.goto q (left_side G r) ≡ Some t → Split G u.codes (right_side G r) us ps → Stands (t ∷ q ∷ ρ) us (ps ++ r ∷ [])
  joined {r = r} i u p g f =
      record {
        codes = u.codes ++ left_side G r ∷ [];
        spells = push (subst (λ m. Spells G A u.codes m) p u.spells) g;
        forest = subst₂ (λ a b. Forest G (u.codes ++ left_side G r ∷ []) a b) (sym f.words_are) (sym (append_assoc f.rules_front f.rules_back (r ∷ [])) ∙ ap (λ m. m ++ r ∷ []) (sym f.rules_are)) (join f.front (tree i f.back));
      }

  pub stands_reduce : {s w r q t : ℕ} {σ ρ us ps : List ℕ} → Holds G A s w (Reduce r) → drop (length (right_side G r)) (s ∷ σ) ≡ q ∷ ρ → A.goto q (left_side G r) ≡ Some t → Stands (s ∷ σ) us ps → Stands (t ∷ q ∷ ρ) us (ps ++ r ∷ [])
  stands_reduce {r = r} h d g x =
      let i = reduction L h in
      let u = unwind (length (right_side G r)) x.spells i.1 in
      joined i.0 u (sym u.taken_off ∙ d) g (split u.codes (right_side G r) x.forest (u.is ∙ ap (λ m. u.codes ++ m) (take-length (right_side G r))))

  pub stands : {σ i ps τ j us out : List ℕ} → Run G A σ i ps τ j → Stands σ us out → (vs : List ℕ) × (i ≡ vs ++ j) × Stands τ (us ++ vs) (out ++ ps)
  stands {σ} {us = us} {out} halt x = ([], refl, subst₂ (λ a b. Stands σ a b) (sym (append-nil us)) (sym (append-nil out)) x)
  stands {us = us} {out} (shift {w = w} h r) x = let y = stands r (stands_shift h x) in (w ∷ y.0, ap (λ l. w ∷ l) y.1, rw append_assoc at y.2)
  stands {us = us} {out} (reduce h d g r) x = let y = stands r (stands_reduce h d g x) in (y.0, y.1, rw append_assoc at y.2)

  pub stands_at : (ws : List ℕ) {j ps τ : List ℕ} → Run G A (0 ∷ []) (ws ++ j) ps τ j → Stands τ ws ps
  stands_at ws {j} {ps} {τ} r =
      let y = stands r begin in
      subst (λ l. Stands τ l ps) (append_cancel_right y.0 ws j (sym y.1)) y.2

  -- Rule 0 stands in front in state 0 alone.
  origin_state : {s r d : ℕ} → Made G A.has s r d → r ≡ 0 → d ≡ 0 → s ≡ 0
  origin_state (moved h) e f = absurd (omega arith)
  origin_state at_origin e f = refl
  origin_state (closure m c i) e f = absurd (omega arith)

  -- Where the machine may accept, the stack spells the start.
  accept_codes : {γ σ : List ℕ} {s : ℕ} → Spells G A γ (s ∷ σ) → Has A s 0 1 → γ ≡ start G ∷ []
  accept_codes x h =
      let u = unwind 1 x h in
      u.is ∙ ap₂ (λ a b. a ++ take 1 b) (at_bottom u.spells (origin_state (L.made u.begun) refl refl)) (right_of_0 G)

  accepted : {s w : ℕ} {σ us ps : List ℕ} → Holds G A s w Accept → Stands (s ∷ σ) us ps → (w ≡ 0) × TreeOf G us ps
  accepted (may_accept h) x = (refl, rw (accept_codes x.spells h) at x.forest)

  sound_from : {σ i ps us out : List ℕ} → Accepts G A σ i ps → Stands σ us out → (vs : List ℕ) × (i ≡ vs ++ 0 ∷ []) × TreeOf G (us ++ vs) (out ++ ps)
  sound_from {us = us} {out} (accept h) x =
      let y = accepted h x in
      ([], ap (λ n. n ∷ []) y.0, subst₂ (λ a b. TreeOf G a b) (sym (append-nil us)) (sym (append-nil out)) y.1)
  sound_from {us = us} {out} (shift {w = w} h r) x = let y = sound_from r (stands_shift h x) in (w ∷ y.0, ap (λ l. w ∷ l) y.1, rw append_assoc at y.2)
  sound_from {us = us} {out} (reduce h d g r) x = let y = sound_from r (stands_reduce h d g x) in (y.0, y.1, rw append_assoc at y.2)

  -- What the machine accepts has a tree, with the rules noted.
  pub sound : (ws : List ℕ) {ps : List ℕ} → AcceptsWords G A ws ps → TreeOf G ws ps
  sound ws p = let y = sound_from p begin in rw (append_cancel_right y.0 ws (0 ∷ []) (sym y.1)) at y.2
