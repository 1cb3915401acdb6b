-- A turn of the loop over the next places of x, from where the next place t is seen: its mark and its value are taken in.
use Rattle.std.proofs.Common.{◌≡◌, ℕ, ◌+◌, ◌-◌, ◌<◌, ◌≤◌, min, List, length, get_or, sym, refl, ap, ◌∙◌, subst, inl, inr, ⊎_elim, arith}
use Rattle.std.proofs.lemmas.List.{length-set, get_or-set_same, get_or-set_other}
use Rattle.std.proofs.lemmas.Bool.{cases_eq, cases_order, cases_lt}
use Rattle.gather.specs.Gathered.{PartOf, JoinedFrom, both}
use Rattle.gather.specs.Reach.{Reaches, here, step}
use Rattle.gather.specs.declared.visit.Visit.TheVariants.{Unseen, Done}
use Rattle.gather.specs.Stack.{Snapshot, folded, value, visit, mark, at, top, unseen, Sound, TakenIn, Settled}
use Rattle.gather.specs.Visits.{is_unseen, lower, rank}
use Rattle.gather.proofs.Counts.{is_seen, unseen_same}
use Rattle.gather.proofs.Parts.{Lattice, part_trans, part_left, part_right, part_as}
use Rattle.gather.proofs.Paths.{joined_on}
use Rattle.gather.proofs.Ranks.{rank_lower}
use Rattle.gather.proofs.Turns.{Turn, Joint}

module _ {M : Type 0} {none : M} {op : M → M → M} (laws : Lattice op) {targets : ℕ → List ℕ} {seeds : List M} {s₀ s : Snapshot M} {x h k mid : ℕ} (t : ℕ) (u : Joint none op targets seeds s₀ s x h k mid t) (read : get_or (targets x) k 0 ≡ t) where
  abbrev after : Snapshot M
  after = folded none op s x t

  visit_x : visit after x ≡ lower (visit s x) (visit s t)
  visit_x = let long = u.sound.sizes in get_or-set_same s.visits x (lower (visit s x) (visit s t)) Unseen (omega (arith, u.in_x))

  visit_other : (p : ℕ) → (p ≡ x → ⊥) → visit after p ≡ visit s p
  visit_other p ne = get_or-set_other s.visits x p (lower (visit s x) (visit s t)) Unseen ne

  mark_other : (p : ℕ) → (p ≡ x → ⊥) → mark after p ≡ mark s p
  mark_other p ne = ap rank (visit_other p ne)

  value_x : value none after x ≡ op (value none s x) (value none s t)
  value_x = let long = u.sound.size in get_or-set_same s.values x (op (value none s x) (value none s t)) none (omega (arith, u.in_x))

  value_other : (p : ℕ) → (p ≡ x → ⊥) → value none after p ≡ value none s p
  value_other p ne = get_or-set_other s.values x p (op (value none s x) (value none s t)) none ne

  short : top s ≤ 2304
  short = omega (arith, u.sound.free, u.sound.few)

  x_as : mark s (at s h) ≡ mark s x
  x_as = ap (mark s) u.is

  x_some : 1 ≤ mark s x
  x_some = omega (arith, x_as, u.sound.some h u.there)

  x_low : mark s x ≤ h + 1
  x_low = omega (arith, x_as, u.sound.low h u.there)

  t_some : 1 ≤ mark s t
  t_some = ⊎_elim (λ d. omega (arith, ap rank d)) (λ on. omega (arith, ap (mark s) on.2, u.sound.some on.0 on.1)) u.seen

  t_low : mark s t ≤ 2305
  t_low = ⊎_elim (λ d. omega (arith, ap rank d)) (λ on. omega (arith, ap (mark s) on.2, u.sound.low on.0 on.1, short)) u.seen

  mark_x : mark after x ≡ min (mark s x) (mark s t)
  mark_x = ap rank visit_x ∙ rank_lower (visit s x) (visit s t) (omega (arith, x_low, u.there, short)) t_low

  lowers : (p : ℕ) → mark after p ≤ mark s p
  lowers p = ⊎_elim (λ e. omega (arith, ap (mark after) e, ap (mark s) e, mark_x)) (λ ne. omega (arith, mark_other p ne)) (cases_eq p x)

  somes : (p : ℕ) → 1 ≤ mark s p → 1 ≤ mark after p
  somes p l = ⊎_elim (λ e. omega (arith, ap (mark after) e, mark_x, x_some, t_some)) (λ ne. omega (arith, mark_other p ne)) (cases_eq p x)

  -- What is done is not x, before and after.
  done_off : (p : ℕ) → visit s p ≡ Done → p ≡ x → ⊥
  done_off p d e = omega (arith, ap rank d, ap (mark s) e, x_low, short, u.there)

  done_off' : (p : ℕ) → visit after p ≡ Done → p ≡ x → ⊥
  done_off' p d e = omega (arith, ap rank d, ap (mark after) e, mark_x, x_low, short, u.there)

  grow : (p : ℕ) → PartOf op (value none s p) (value none after p)
  grow p =
      ⊎_elim
      (λ e. part_as op (value none s x) (value none s p) (op (value none s x) (value none s t)) (value none after p) (ap (value none s) e) (ap (value none after) e ∙ value_x) (part_left laws (value none s x) (value none s t)))
      (λ ne. part_as op (value none s p) (value none s p) (value none s p) (value none after p) refl (value_other p ne) (laws.idem (value none s p)))
      (cases_eq p x)

  lift : (y : M) (p : ℕ) → PartOf op y (value none s p) → PartOf op y (value none after p)
  lift y p b = part_trans laws y (value none s p) (value none after p) b (grow p)

  t_below : PartOf op (value none s t) (value none after x)
  t_below = part_as op (value none s t) (value none s t) (op (value none s x) (value none s t)) (value none after x) refl value_x (part_right laws (value none s x) (value none s t))

  fold_back : (a : ℕ) → a < top s → Reaches (length seeds) targets (at s a) (at s (mark after (at s a) - 1))
  fold_back a l =
      let as_before : mark after (at s a) ≡ mark s (at s a) → Reaches (length seeds) targets (at s a) (at s (mark after (at s a) - 1)) =
      λ e. subst (λ i. Reaches (length seeds) targets (at s a) (at s (i - 1))) (sym e) (u.sound.back a l) in
      ⊎_elim
      (λ e.
      ⊎_elim
      (λ lt.
      ⊎_elim
      (λ d. absurd (omega (arith, ap rank d, x_low, short, u.there)))
      (λ on.
      let far : Reaches (length seeds) targets t (at s (mark s t - 1)) =
      subst (λ p. Reaches (length seeds) targets p (at s (mark s p - 1))) on.2 (u.sound.back on.0 on.1) in
      let way : Reaches (length seeds) targets x (at s (mark s t - 1)) = step u.hop far in
      let index : mark s t ≡ mark after (at s a) = omega (arith, ap (mark after) e, mark_x) in
      subst (λ p. Reaches (length seeds) targets p (at s (mark after (at s a) - 1))) (sym e)
      (subst (λ i. Reaches (length seeds) targets x (at s (i - 1))) index way))
      u.seen)
      (λ ge. as_before (omega (arith, ap (mark after) e, ap (mark s) e, mark_x)))
      (cases_lt (mark s t) (mark s x)))
      (λ ne. as_before (mark_other (at s a) ne))
      (cases_eq (at s a) x)

  fold_only : JoinedFrom none op targets seeds x (value none after x)
  fold_only = subst (JoinedFrom none op targets seeds x) (sym value_x) (both (u.sound.only x u.in_x) (joined_on (step u.hop here) (u.sound.only t u.hop.inside)))

  same_unseen : unseen after.visits ≡ unseen s.visits
  same_unseen =
      unseen_same s.visits after.visits (length-set s.visits x (lower (visit s x) (visit s t))) (λ p l.
      ⊎_elim
      (λ e. is_seen (visit after p) (omega (arith, ap (mark after) e, mark_x, x_some, t_some)) ∙ sym (is_seen (visit s p) (omega (arith, ap (mark s) e, x_some))))
      (λ ne. ap is_unseen (visit_other p ne))
      (cases_eq p x))

  fold_sound : Sound none op targets seeds after
  fold_sound =
      let w = u.sound in
      record {
        size = length-set s.values x (op (value none s x) (value none s t)) ∙ w.size;
        sizes = omega (arith, length-set s.visits x (lower (visit s x) (visit s t)), w.sizes);
        few = omega (arith, length-set s.visits x (lower (visit s x) (visit s t)), w.few);
        only = λ p l.
            ⊎_elim
            (λ e. subst (λ q. JoinedFrom none op targets seeds q (value none after q)) (sym e) fold_only)
            (λ ne. subst (JoinedFrom none op targets seeds p) (sym (value_other p ne)) (w.only p l))
            (cases_eq p x);
        own = λ p l. lift (get_or seeds p none) p (w.own p l);
        free = omega (arith, same_unseen, length-set s.visits x (lower (visit s x) (visit s t)), w.free);
        inside = w.inside;
        apart = w.apart;
        some = λ a l. somes (at s a) (w.some a l);
        low = λ a l. omega (arith, lowers (at s a), w.low a l);
        back = fold_back;
        sorts = λ p l.
            ⊎_elim
            (λ e. inr (inr (h, u.there, u.is ∙ sym e)))
            (λ ne. ⊎_elim (λ z. inl (visit_other p ne ∙ z)) (⊎_elim (λ d. inr (inl (visit_other p ne ∙ d))) (λ on. inr (inr on))) (w.sorts p l))
            (cases_eq p x);
        done = λ p t' l d hop'.
            let ne = done_off' p d in
            let old = w.done p t' l (sym (visit_other p ne) ∙ d) hop' in
            let ne' = done_off t' old.0 in
            (visit_other t' ne' ∙ old.0, part_as op (value none s t') (value none after t') (value none s p) (value none after p) (value_other t' ne') (value_other p ne) old.1);
      }

  taken_other : (w t' : ℕ) → (w ≡ x → ⊥) → TakenIn none op targets seeds s w t' → TakenIn none op targets seeds after w t'
  taken_other w t' ne in_it =
      ⊎_elim
      (λ done.
      let ne' = done_off t' done.0 in
      inl (visit_other t' ne' ∙ done.0, part_as op (value none s t') (value none after t') (value none s w) (value none after w) (value_other t' ne') (value_other w ne) done.1))
      (λ on. inr (on.0, on.1, on.2, omega (arith, on.3, mark_other w ne)))
      in_it

  taken_x : (t' : ℕ) → TakenIn none op targets seeds s x t' → TakenIn none op targets seeds after x t'
  taken_x t' in_it =
      ⊎_elim
      (λ done.
      let ne' = done_off t' done.0 in
      inl (visit_other t' ne' ∙ done.0, subst (λ y. PartOf op y (value none after x)) (sym (value_other t' ne')) (lift (value none s t') x done.1)))
      (λ on. inr (on.0, on.1, on.2, omega (arith, on.3, mark_x)))
      in_it

  taken_t : TakenIn none op targets seeds after x t
  taken_t =
      ⊎_elim
      (λ d.
      let ne = done_off t d in
      inl (visit_other t ne ∙ d, subst (λ y. PartOf op y (value none after x)) (sym (value_other t ne)) t_below))
      (λ on. inr (on.0, on.1, on.2, omega (arith, mark_x, ap (mark s) on.2, u.sound.low on.0 on.1)))
      u.seen

  fold_settled : (a : ℕ) → h < a → a < top s → Settled none op targets seeds after x a
  fold_settled a g l =
      let ne : at s a ≡ x → ⊥ = λ e. omega (arith, u.sound.apart a h l u.there (e ∙ sym u.is)) in
      ⊎_elim
      (λ lt.
      let f = u.settled a g lt in
      record {
        lower = omega (arith, mark_other (at s a) ne, f.lower);
        above = omega (arith, mark_other (at s a) ne, mark_x, f.above);
        under = subst (λ y. PartOf op y (value none after x)) (sym (value_other (at s a) ne)) (lift (value none s (at s a)) x f.under);
        taken = λ t' hop'. taken_other (at s a) t' ne (f.taken t' hop');
      })
      (λ ge.
      let f = u.more a ge l in
      record {
        lower = omega (arith, mark_other (at s a) ne, f.lower);
        above = omega (arith, mark_other (at s a) ne, mark_x, f.above);
        under = subst (λ y. PartOf op y (value none after x)) (sym (value_other (at s a) ne)) (part_trans laws (value none s (at s a)) (value none s t) (value none after x) f.under t_below);
        taken = λ t' hop'. taken_other (at s a) t' ne (f.taken t' hop');
      })
      (cases_lt a mid)

  pub fold_turn : Turn none op targets seeds s₀ after x h (k + 1)
  fold_turn = record {
    sound = fold_sound;
    fresh = u.fresh;
    in_x = u.in_x;
    there = u.there;
    is = u.is;
    settled = fold_settled;
    taken = λ q t' l b e i.
        ⊎_elim
        (λ same. subst (λ y. TakenIn none op targets seeds after x y) (sym read ∙ ap (λ y. get_or (targets x) y 0) (sym same) ∙ e) taken_t)
        (⊎_elim (λ lt. taken_x t' (u.taken q t' lt b e i)) (λ gt. absurd (omega arith)))
        (cases_order q k);
    kept = record {
      lent = u.kept.lent;
      visited = λ p l nz. let ne : p ≡ x → ⊥ = λ e. nz (ap (visit s₀) e ∙ u.fresh) in visit_other p ne ∙ u.kept.visited p l nz;
      valued = λ p l nz. let ne : p ≡ x → ⊥ = λ e. nz (ap (visit s₀) e ∙ u.fresh) in value_other p ne ∙ u.kept.valued p l nz;
      stacked = u.kept.stacked;
      fewer = omega (arith, same_unseen, u.kept.fewer);
    };
  }
