-- The first step of a walk: the place goes onto the stack.
use Rattle.std.proofs.Common.{◌≡◌, ℕ, ◌+◌, ◌-◌, ◌<◌, ◌⊎◌, List, [], ◌∷◌, length, length-append, sym, refl, ap, ◌∙◌, subst, inl, inr, ⊎_elim, arith}
use Rattle.std.proofs.Math.ListN.{get_or-append}
use Rattle.std.proofs.Math.Seq.{get_or-append_seam}
use Rattle.std.proofs.lemmas.List.{length-set, get_or-set_same, get_or-set_other}
use Rattle.std.proofs.lemmas.Bool.{cases_eq, cases_order}
use Rattle.gather.specs.Reach.{Reaches, here}
use Rattle.gather.specs.declared.visit.Visit.TheVariants.{Unseen, Open}
use Rattle.gather.specs.Stack.{Snapshot, pushed, visit, mark, at, top, unseen, Sound}
use Rattle.gather.specs.Visits.{rank}
use Rattle.gather.proofs.Counts.{unseen_less}
use Rattle.gather.proofs.Turns.{Turn}

module _ {M : Type 0} {none : M} {op : M → M → M} {targets : ℕ → List ℕ} {seeds : List M} {s : Snapshot M} {x : ℕ} (w : Sound none op targets seeds s) (in_x : x < length seeds) (fresh : visit s x ≡ Unseen) where
  push_visit : visit (pushed s x) x ≡ Open (top s)
  push_visit = let long = w.sizes in get_or-set_same s.visits x (Open (top s)) Unseen (omega arith)

  push_other : (p : ℕ) → (p ≡ x → ⊥) → visit (pushed s x) p ≡ visit s p
  push_other p ne = get_or-set_other s.visits x p (Open (top s)) Unseen ne

  push_less : unseen (pushed s x).visits + 1 ≡ unseen s.visits
  push_less = let long = w.sizes in unseen_less s.visits x (top s) (omega arith) fresh

  pub push_room : (top s) < length s.visits
  push_room = let less = push_less in omega (arith, w.free)

  one_more : top (pushed s x) ≡ top s + 1
  one_more = length-append s.stack (x ∷ [])

  split : (a : ℕ) → a < top (pushed s x) → (a < top s) ⊎ (a ≡ top s)
  split a l = ⊎_elim (λ e. inr e) (⊎_elim (λ lt. inl lt) (λ gt. absurd (omega (arith, one_more)))) (cases_order a (top s))

  push_top : at (pushed s x) (top s) ≡ x
  push_top = get_or-append_seam s.stack x [] 0

  push_under : (a : ℕ) → a < top s → at (pushed s x) a ≡ at s a
  push_under a l = get_or-append s.stack (x ∷ []) 0 a l

  off_x : (a : ℕ) → a < top s → at s a ≡ x → ⊥
  off_x a l e = omega (arith, ap (mark s) e, ap rank fresh, w.some a l)

  mark_under : (a : ℕ) → a < top s → mark (pushed s x) (at (pushed s x) a) ≡ mark s (at s a)
  mark_under a l = ap (mark (pushed s x)) (push_under a l) ∙ ap rank (push_other (at s a) (off_x a l))

  mark_top : (a : ℕ) → a ≡ (top s) → mark (pushed s x) (at (pushed s x) a) ≡ (top s) + 1
  mark_top a e = ap (λ b. mark (pushed s x) (at (pushed s x) b)) e ∙ ap (mark (pushed s x)) push_top ∙ ap rank push_visit

  at_top : (a : ℕ) → a ≡ (top s) → at (pushed s x) a ≡ x
  at_top a e = ap (at (pushed s x)) e ∙ push_top

  push_sound : Sound none op targets seeds (pushed s x)
  push_sound =
      let room = push_room in
      let less = push_less in
      record {
        size = w.size;
        sizes = omega (arith, length-set s.visits x (Open (top s)), w.sizes);
        few = omega (arith, length-set s.visits x (Open (top s)), w.few);
        only = w.only;
        own = w.own;
        free = omega (arith, one_more, length-set s.visits x (Open (top s)), w.free);
        inside = λ a l.
            ⊎_elim
            (λ lt. subst (λ p. p < length seeds) (sym (push_under a lt)) (w.inside a lt))
            (λ e. subst (λ p. p < length seeds) (sym (at_top a e)) in_x)
            (split a l);
        apart = λ a b la lb e.
            ⊎_elim
            (λ lt.
            ⊎_elim
            (λ lt'. w.apart a b lt lt' (sym (push_under a lt) ∙ e ∙ push_under b lt'))
            (λ e'. absurd (off_x a lt (sym (push_under a lt) ∙ e ∙ at_top b e')))
            (split b lb))
            (λ e''.
            ⊎_elim
            (λ lt'. absurd (off_x b lt' (sym (push_under b lt') ∙ sym e ∙ at_top a e'')))
            (λ e'. e'' ∙ sym e')
            (split b lb))
            (split a la);
        some = λ a l. ⊎_elim (λ lt. omega (arith, mark_under a lt, w.some a lt)) (λ e. omega (arith, mark_top a e)) (split a l);
        low = λ a l. ⊎_elim (λ lt. omega (arith, mark_under a lt, w.low a lt)) (λ e. omega (arith, mark_top a e)) (split a l);
        back = λ a l.
            ⊎_elim
            (λ lt.
            let j = mark s (at s a) - 1 in
            let index : mark (pushed s x) (at (pushed s x) a) - 1 ≡ j = ap (λ v. v - 1) (mark_under a lt) in
            let short : j < (top s) = omega (arith, w.low a lt, w.some a lt) in
            let end : at (pushed s x) (mark (pushed s x) (at (pushed s x) a) - 1) ≡ at s j = ap (at (pushed s x)) index ∙ push_under j short in
            subst (λ p. Reaches (length seeds) targets p (at (pushed s x) (mark (pushed s x) (at (pushed s x) a) - 1))) (sym (push_under a lt))
            (subst (λ q. Reaches (length seeds) targets (at s a) q) (sym end) (w.back a lt)))
            (λ e.
            let index : a ≡ mark (pushed s x) (at (pushed s x) a) - 1 = omega (arith, mark_top a e) in
            subst (λ q. Reaches (length seeds) targets (at (pushed s x) a) q) (ap (at (pushed s x)) index) here)
            (split a l);
        sorts = λ p l.
            ⊎_elim
            (λ e. inr (inr (top s, omega (arith, one_more), push_top ∙ sym e)))
            (λ ne.
            ⊎_elim
            (λ z. inl (push_other p ne ∙ z))
            (⊎_elim
            (λ d. inr (inl (push_other p ne ∙ d)))
            (λ on. inr (inr (on.0, omega (arith, one_more, on.1), push_under on.0 on.1 ∙ on.2))))
            (w.sorts p l))
            (cases_eq p x);
        done = λ p t l d hop.
            let ne : p ≡ x → ⊥ = λ e. omega (arith, ap rank (sym d), ap (mark (pushed s x)) e, ap rank push_visit, push_room, w.few) in
            let old = w.done p t l (sym (push_other p ne) ∙ d) hop in
            let ne' : t ≡ x → ⊥ = λ e. omega (arith, ap rank (sym old.0 ∙ ap (visit s) e ∙ fresh)) in
            (push_other t ne' ∙ old.0, old.1);
      }

  pub push : Turn none op targets seeds s (pushed s x) x (top s) 0
  push =
      let less = push_less in
      record {
        sound = push_sound;
        fresh = fresh;
        in_x = in_x;
        there = omega (arith, one_more);
        is = push_top;
        settled = λ a h l. absurd (omega (arith, one_more));
        taken = λ q t l. absurd (omega arith);
        kept = record {
          lent = refl;
          visited = λ p l nz. push_other p (λ e. nz (ap (visit s) e ∙ fresh));
          valued = λ p l nz. refl;
          stacked = push_under;
          fewer = omega arith;
        };
      }
