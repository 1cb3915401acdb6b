-- A turn of the loop over the next places of x, up to where the next place t is seen.
use Rattle.std.proofs.Common.{◌≡◌, ℕ, ◌+◌, ◌<◌, ◌≤◌, List, length, get_or, sym, ap, ◌∙◌, subst, inl, inr, ⊎_elim, arith}
use Rattle.std.proofs.lemmas.Bool.{cases_order}
use Rattle.gather.specs.Gathered.{PartOf}
use Rattle.gather.specs.Reach.{Step}
use Rattle.gather.specs.declared.visit.Visit.TheVariants.{Unseen}
use Rattle.gather.specs.Stack.{Snapshot, value, visit, mark, at, top, TakenIn, Settled, Kept, Walked}
use Rattle.gather.specs.Visits.{rank}
use Rattle.gather.proofs.Parts.{Lattice, part_as}
use Rattle.gather.proofs.Turns.{Turn, Joint}

module _ {M : Type 0} {none : M} {op : M → M → M} {targets : ℕ → List ℕ} {seeds : List M} where
  -- The next place is no place of the list.
  pub outside : {s₀ s : Snapshot M} {x h k : ℕ} → Turn none op targets seeds s₀ s x h k → length seeds ≤ get_or (targets x) k 0 → Turn none op targets seeds s₀ s x h (k + 1)
  outside {s₀} {s} {x} {h} {k} u out = record {
    sound = u.sound;
    fresh = u.fresh;
    in_x = u.in_x;
    there = u.there;
    is = u.is;
    settled = u.settled;
    taken = λ q t l b e i.
        ⊎_elim
        (λ same. let back : get_or (targets x) q 0 ≡ get_or (targets x) k 0 = ap (λ y. get_or (targets x) y 0) same in absurd (omega arith))
        (⊎_elim (λ lt. u.taken q t lt b e i) (λ gt. absurd (omega arith)))
        (cases_order q k);
    kept = u.kept;
  }

  -- The next place was seen before.
  pub seen_before : {s₀ s : Snapshot M} {x h k : ℕ} (t : ℕ) → Turn none op targets seeds s₀ s x h k → Step (length seeds) targets x t → (visit s t ≡ Unseen → ⊥) → Joint none op targets seeds s₀ s x h k (top s) t
  seen_before {s₀} {s} {x} {h} {k} t u hop nz = record {
    sound = u.sound;
    fresh = u.fresh;
    in_x = u.in_x;
    there = u.there;
    is = u.is;
    hop = hop;
    settled = u.settled;
    more = λ a g l. absurd (omega arith);
    taken = u.taken;
    kept = u.kept;
    seen = ⊎_elim (λ z. absurd (nz z)) (λ r. r) (u.sound.sorts t hop.inside);
  }

  -- What was taken in stays so over a walk.
  taken_kept : {s s' : Snapshot M} → Kept none op targets seeds s s' (top s) → top s ≤ top s' → (w t : ℕ) → w < length seeds → t < length seeds → (visit s w ≡ Unseen → ⊥) → TakenIn none op targets seeds s w t → TakenIn none op targets seeds s' w t
  taken_kept {s = s} {s' = s'} κ grows w t in_w in_t nz taken =
      let mw = ap rank (κ.visited w in_w nz) in
      let vw = κ.valued w in_w nz in
      ⊎_elim
      (λ done.
      let nz' : visit s t ≡ Unseen → ⊥ = λ e. omega (arith, ap rank (sym done.0 ∙ e)) in
      inl (κ.visited t in_t nz' ∙ done.0, part_as op (value none s t) (value none s' t) (value none s w) (value none s' w) (κ.valued t in_t nz') vw done.1))
      (λ on. inr (on.0, omega (arith, on.1), κ.stacked on.0 on.1 ∙ on.2, omega (arith, on.3, mw)))
      taken

  -- The next place was not seen yet, and was walked from.
  module _ (laws : Lattice op) {s₀ s s' : Snapshot M} {x h k : ℕ} (t : ℕ) (u : Turn none op targets seeds s₀ s x h k) (hop : Step (length seeds) targets x t) (new : visit s t ≡ Unseen) (r : Walked none op targets seeds s s' t) where
    grows : top s ≤ (top s')
    grows = ⊎_elim (λ e. omega (arith, e.0)) (λ y. omega (arith, y.there)) r.ends

    on_stack : (a : ℕ) → a < top s → visit s (at s a) ≡ Unseen → ⊥
    on_stack a l e = omega (arith, ap rank e, u.sound.some a l)

    x_seen : visit s x ≡ Unseen → ⊥
    x_seen e = on_stack h u.there (ap (visit s) u.is ∙ e)

    settled_kept : (a : ℕ) → h < a → a < top s → Settled none op targets seeds s' x a
    settled_kept a g l =
        let f = u.settled a g l in
        let κ = r.kept in
        let same : at s' a ≡ at s a = κ.stacked a l in
        let in_a = u.sound.inside a l in
        let ma : mark s' (at s' a) ≡ mark s (at s a) = ap (mark s') same ∙ ap rank (κ.visited (at s a) in_a (on_stack a l)) in
        let mx = ap rank (κ.visited x u.in_x x_seen) in
        let va : value none s' (at s' a) ≡ value none s (at s a) = ap (value none s') same ∙ κ.valued (at s a) in_a (on_stack a l) in
        let vx = κ.valued x u.in_x x_seen in
        record {
          lower = omega (arith, ma, f.lower);
          above = omega (arith, ma, mx, f.above);
          under = part_as op (value none s (at s a)) (value none s' (at s' a)) (value none s x) (value none s' x) va vx f.under;
          taken = λ t' hop'.
              let hop'' : Step (length seeds) targets (at s a) t' = subst (λ p. Step (length seeds) targets p t') same hop' in
              let in_it = taken_kept {s = s} {s' = s'} κ grows (at s a) t' in_a hop'.inside (on_stack a l) (f.taken t' hop'') in
              subst (λ p. TakenIn none op targets seeds s' p t') (sym same) in_it;
        }

    settled_new : (a : ℕ) → top s ≤ a → a < top s' → Settled none op targets seeds s' t a
    settled_new a g l =
        ⊎_elim
        (λ e. absurd (omega (arith, e.0)))
        (λ y.
        ⊎_elim
        (λ same.
        let is : at s' a ≡ t = ap (at s') same ∙ y.is in
        let ma : mark s' (at s' a) ≡ mark s' t = ap (mark s') is in
        record {
          lower = omega (arith, ma, y.low);
          above = omega (arith, ma);
          under = subst (λ p. PartOf op (value none s' p) (value none s' t)) (sym is) (laws.idem (value none s' t));
          taken = λ t' hop'. subst (λ p. TakenIn none op targets seeds s' p t') (sym is) (y.taken t' (subst (λ p. Step (length seeds) targets p t') is hop'));
        })
        (⊎_elim (λ lt. absurd (omega arith)) (λ gt. y.settled a gt l))
        (cases_order a (top s)))
        r.ends

    pub walked_from : Joint none op targets seeds s₀ s' x h k (top s) t
    walked_from =
        let κ = r.kept in
        let up = grows in
        record {
          sound = r.sound;
          fresh = u.fresh;
          in_x = u.in_x;
          there = omega (arith, u.there);
          is = κ.stacked h u.there ∙ u.is;
          hop = hop;
          settled = settled_kept;
          more = settled_new;
          taken = λ q t' l b e i. taken_kept {s = s} {s' = s'} κ up x t' u.in_x i x_seen (u.taken q t' l b e i);
          kept = record {
            lent = κ.lent ∙ u.kept.lent;
            visited = λ p l nz.
                let one = u.kept.visited p l nz in
                κ.visited p l (λ e. nz (sym one ∙ e)) ∙ one;
            valued = λ p l nz.
                let one = u.kept.visited p l nz in
                κ.valued p l (λ e. nz (sym one ∙ e)) ∙ u.kept.valued p l nz;
            stacked = λ a l. κ.stacked a (omega (arith, u.there)) ∙ u.kept.stacked a l;
            fewer = omega (arith, κ.fewer, u.kept.fewer);
          };
          seen = ⊎_elim (λ e. inl e.1) (λ y. inr ((top s), y.there, y.is)) r.ends;
        }
