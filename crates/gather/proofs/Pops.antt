-- The end of a walk: x stays on the stack, or its component is complete and leaves it.
use Rattle.std.proofs.Common.{◌≡◌, ℕ, zero, suc, ◌+◌, ◌-◌, ◌<◌, ◌≤◌, ◌⊎◌, List, drop, take, length, length-drop, get_or, sym, ap, ◌∙◌, subst, inl, inr, ⊎_elim, arith}
use Rattle.std.proofs.lemmas.List.{get_or-drop, get_or-take, length-take-le}
use Rattle.std.proofs.lemmas.Bool.{cases_eq, cases_order, cases_lt}
use Rattle.gather.specs.Gathered.{PartOf, JoinedFrom}
use Rattle.gather.specs.Reach.{Step, Reaches, here}
use Rattle.gather.specs.declared.visit.Visit.{Visit}
use Rattle.gather.specs.declared.visit.Visit.TheVariants.{Unseen, Open, Done}
use Rattle.gather.specs.Stack.{Snapshot, value, visit, mark, at, top, unseen, LeftStack, Completed, Sound, TakenIn, Walked}
use Rattle.gather.specs.Visits.{is_unseen, rank}
use Rattle.gather.proofs.Counts.{is_seen, unseen_same}
use Rattle.gather.proofs.Parts.{Lattice, part_trans, part_as}
use Rattle.gather.proofs.Paths.{reach_on, joined_on}
use Rattle.gather.proofs.Ranks.{rank_open}
use Rattle.gather.proofs.Turns.{Turn}

-- A number stands in a part of a list, or nowhere in it.
look : (xs : List ℕ) (p lo hi : ℕ) → ((a : ℕ) × (lo ≤ a) × (a < hi) × (get_or xs a 0 ≡ p)) ⊎ ((a : ℕ) → lo ≤ a → a < hi → get_or xs a 0 ≡ p → ⊥)
look xs p lo zero = inr (λ a g l e. omega arith)
look xs p lo (suc hi) =
    ⊎_elim
    (λ on. inl (on.0, on.1, omega (arith, on.2), on.3))
    (λ off.
    ⊎_elim
    (λ lt. inr (λ a g l e. omega arith))
    (λ ge.
    ⊎_elim
    (λ e. inl (hi, ge, omega arith, e))
    (λ ne. inr (λ a g l e. ⊎_elim (λ same. ne (ap (λ y. get_or xs y 0) (sym same) ∙ e)) (⊎_elim (λ lt. off a g lt e) (λ gt. omega arith)) (cases_order a hi)))
    (cases_eq (get_or xs hi 0) p))
    (cases_lt hi lo))
    (look xs p lo hi)

module _ {M : Type 0} {none : M} {op : M → M → M} (laws : Lattice op) {targets : ℕ → List ℕ} {seeds : List M} {s₀ s : Snapshot M} {x k : ℕ} (u : Turn none op targets seeds s₀ s x (top s₀) k) (all : length (targets x) ≤ k) where
  taken_x : (t : ℕ) → Step (length seeds) targets x t → TakenIn none op targets seeds s x t
  taken_x t hop = u.taken hop.nr t (omega (arith, hop.listed)) hop.listed hop.there hop.inside

  x_as : mark s (at s (top s₀)) ≡ mark s x
  x_as = ap (mark s) u.is

  pub stay : (visit s x ≡ Open (top s₀) → ⊥) → Walked none op targets seeds s₀ s x
  stay off =
      let ne : mark s x ≡ top s₀ + 1 → ⊥ = λ e. off (rank_open (visit s x) (top s₀) e (omega (arith, u.there, u.sound.free, u.sound.few))) in
      let low = u.sound.low (top s₀) u.there in
      let less : mark s x ≤ top s₀ = ⊎_elim (λ e. absurd (ne e)) (⊎_elim (λ lt. omega arith) (λ gt. absurd (omega (arith, x_as)))) (cases_order (mark s x) ((top s₀) + 1)) in
      record { sound = u.sound; kept = u.kept; ends = inr (record { there = u.there; is = u.is; low = less; settled = u.settled; taken = taken_x }) }

  -- The place x is the lowest of its component on the stack, and the component is closed.
  module _ (root : mark s x ≡ (top s₀) + 1) (values' : List M) (visits' : List Visit)
      (shut : Completed none (value none s x) (drop (top s₀) s.stack) s.values values' s.visits visits') where
    abbrev popped : Snapshot M
    popped = record { lent = s.lent; values = values'; visits = visits'; stack = take (top s₀) s.stack }

    top_is : top popped ≡ top s₀
    top_is = length-take-le (top s₀) s.stack (omega (arith, u.there))

    at_is : (a : ℕ) → a < top s₀ → at popped a ≡ at s a
    at_is a l = get_or-take (top s₀) s.stack a 0 l

    others : (p : ℕ) → ((a : ℕ) → top s₀ ≤ a → a < top s → at s a ≡ p → ⊥) → (visit popped p ≡ visit s p) × (value none popped p ≡ value none s p)
    others p off = shut.others p (λ i l e. off (top s₀ + i) (omega arith) (omega (arith, length-drop (top s₀) s.stack)) (sym (get_or-drop (top s₀) s.stack i 0) ∙ e))

    taken_off : (a : ℕ) → top s₀ ≤ a → get_or (drop (top s₀) s.stack) (a - top s₀) 0 ≡ at s a
    taken_off a g = let same : top s₀ + (a - top s₀) ≡ a = omega arith in get_or-drop (top s₀) s.stack (a - top s₀) 0 ∙ ap (at s) same

    short : top s ≤ 2304
    short = omega (arith, u.sound.free, u.sound.few)

    -- What stands on the stack from x on.
    high : (a : ℕ) → top s₀ ≤ a → a < top s → (top s₀) + 1 ≤ mark s (at s a)
    high a g l =
        ⊎_elim
        (λ e. omega (arith, ap (λ b. mark s (at s b)) e, x_as))
        (⊎_elim (λ lt. absurd (omega arith)) (λ gt. omega (arith, (u.settled a gt l).above)))
        (cases_order a (top s₀))

    under : (a : ℕ) → top s₀ ≤ a → a < top s → PartOf op (value none s (at s a)) (value none s x)
    under a g l =
        ⊎_elim
        (λ e. subst (λ p. PartOf op (value none s p) (value none s x)) (sym (ap (at s) e ∙ u.is)) (laws.idem (value none s x)))
        (⊎_elim (λ lt. absurd (omega arith)) (λ gt. (u.settled a gt l).under))
        (cases_order a (top s₀))

    taken : (a : ℕ) → top s₀ ≤ a → a < top s → (t : ℕ) → Step (length seeds) targets (at s a) t → TakenIn none op targets seeds s (at s a) t
    taken a g l t hop =
        ⊎_elim
        (λ e.
        let is : at s a ≡ x = ap (at s) e ∙ u.is in
        subst (λ p. TakenIn none op targets seeds s p t) (sym is) (taken_x t (subst (λ p. Step (length seeds) targets p t) is hop)))
        (⊎_elim (λ lt. absurd (omega arith)) (λ gt. (u.settled a gt l).taken t hop))
        (cases_order a (top s₀))

    -- Each of them reaches x.
    climb : (c a : ℕ) → a < c → top s₀ ≤ a → a < top s → Reaches (length seeds) targets (at s a) x
    climb zero a b g l = absurd (omega arith)
    climb (suc c) a b g l =
        ⊎_elim
        (λ e. subst (λ p. Reaches (length seeds) targets (at s a) p) (ap (at s) e ∙ u.is) here)
        (⊎_elim
        (λ lt. absurd (omega arith))
        (λ gt.
        let lower = (u.settled a gt l).lower in
        let up = high a g l in
        let j = mark s (at s a) - 1 in
        reach_on (u.sound.back a l) (climb c j (omega arith) (omega arith) (omega arith))))
        (cases_order a (top s₀))

    done_away : (p : ℕ) → visit s p ≡ Done → (a : ℕ) → top s₀ ≤ a → a < top s → at s a ≡ p → ⊥
    done_away p d a g l e = omega (arith, ap rank d, ap (mark s) e, u.sound.low a l, short)

    under_away : (b : ℕ) → b < top s₀ → (a : ℕ) → top s₀ ≤ a → a < top s → at s a ≡ at s b → ⊥
    under_away b lb a g l e = omega (arith, u.sound.apart a b l (omega (arith, u.there)) e)

    done_in : (p a : ℕ) → top s₀ ≤ a → a < top s → at s a ≡ p → visit popped p ≡ Done
    done_in p a g l e = ap (visit popped) (sym e ∙ sym (taken_off a g)) ∙ shut.visited (a - top s₀) (omega (arith, length-drop (top s₀) s.stack))

    value_in : (p a : ℕ) → top s₀ ≤ a → a < top s → at s a ≡ p → value none popped p ≡ value none s x
    value_in p a g l e = ap (value none popped) (sym e ∙ sym (taken_off a g)) ∙ shut.valued (a - top s₀) (omega (arith, length-drop (top s₀) s.stack))

    pop_only : (p : ℕ) → p < length seeds → JoinedFrom none op targets seeds p (value none popped p)
    pop_only p l =
        ⊎_elim
        (λ on.
        let way : Reaches (length seeds) targets p x = subst (λ q. Reaches (length seeds) targets q x) on.3 (climb (suc on.0) on.0 (omega arith) on.1 on.2) in
        subst (JoinedFrom none op targets seeds p) (sym (value_in p on.0 on.1 on.2 on.3)) (joined_on way (u.sound.only x u.in_x)))
        (λ off. subst (JoinedFrom none op targets seeds p) (sym (others p off).1) (u.sound.only p l))
        (look s.stack p (top s₀) (top s))

    pop_own : (p : ℕ) → p < length seeds → PartOf op (get_or seeds p none) (value none popped p)
    pop_own p l =
        ⊎_elim
        (λ on.
        let inner : PartOf op (value none s p) (value none s x) = subst (λ q. PartOf op (value none s q) (value none s x)) on.3 (under on.0 on.1 on.2) in
        subst (λ y. PartOf op (get_or seeds p none) y) (sym (value_in p on.0 on.1 on.2 on.3)) (part_trans laws (get_or seeds p none) (value none s p) (value none s x) (u.sound.own p l) inner))
        (λ off. subst (λ y. PartOf op (get_or seeds p none) y) (sym (others p off).1) (u.sound.own p l))
        (look s.stack p (top s₀) (top s))

    same_unseen : unseen visits' ≡ unseen s.visits
    same_unseen =
        unseen_same s.visits visits' shut.sizes (λ p l.
        ⊎_elim
        (λ on. ap is_unseen (done_in p on.0 on.1 on.2 on.3) ∙ sym (is_seen (visit s p) (omega (arith, ap (mark s) on.3, u.sound.some on.0 on.2))))
        (λ off. ap is_unseen (others p off).0)
        (look s.stack p (top s₀) (top s)))

    pop_closed : (p t : ℕ) → p < length seeds → visit popped p ≡ Done → Step (length seeds) targets p t → (visit popped t ≡ Done) × (PartOf op (value none popped t) (value none popped p))
    pop_closed p t l d hop =
        ⊎_elim
        (λ on.
        let a = on.0 in
        let vp = value_in p a on.1 on.2 on.3 in
        let hop' : Step (length seeds) targets (at s a) t = subst (λ q. Step (length seeds) targets q t) (sym on.3) hop in
        ⊎_elim
        (λ done.
        let off = done_away t done.0 in
        let old = others t off in
        (old.0 ∙ done.0, part_as op (value none s t) (value none popped t) (value none s x) (value none popped p) old.1 vp (part_trans laws (value none s t) (value none s (at s a)) (value none s x) done.1 (under a on.1 on.2))))
        (λ on_stack.
        let up = high a on.1 on.2 in
        let from : top s₀ ≤ on_stack.0 = omega (arith, on_stack.3) in
        let vt = value_in t on_stack.0 from on_stack.1 on_stack.2 in
        (done_in t on_stack.0 from on_stack.1 on_stack.2, part_as op (value none s x) (value none popped t) (value none s x) (value none popped p) vt vp (laws.idem (value none s x))))
        (taken a on.1 on.2 t hop'))
        (λ off.
        let old_p = others p off in
        let old = u.sound.done p t l (sym old_p.0 ∙ d) hop in
        let old_t = others t (done_away t old.0) in
        (old_t.0 ∙ old.0, part_as op (value none s t) (value none popped t) (value none s p) (value none popped p) old_t.1 old_p.1 old.1))
        (look s.stack p (top s₀) (top s))

    mark_under : (a : ℕ) → a < top s₀ → mark popped (at popped a) ≡ mark s (at s a)
    mark_under a l = ap (mark popped) (at_is a l) ∙ ap rank (others (at s a) (λ b g lb e. under_away a l b g lb e)).0

    pop_back : (a : ℕ) → a < top s₀ → Reaches (length seeds) targets (at popped a) (at popped (mark popped (at popped a) - 1))
    pop_back a l =
        let w = u.sound in
        let in_s : a < top s = omega (arith, u.there) in
        let j = mark s (at s a) - 1 in
        let short : j < top s₀ = omega (arith, w.low a in_s, w.some a in_s) in
        let end : at popped (mark popped (at popped a) - 1) ≡ at s j = ap (λ v. at popped (v - 1)) (mark_under a l) ∙ at_is j short in
        subst (λ p. Reaches (length seeds) targets p (at popped (mark popped (at popped a) - 1))) (sym (at_is a l))
        (subst (λ q. Reaches (length seeds) targets (at s a) q) (sym end) (w.back a in_s))

    pop_sound : Sound none op targets seeds popped
    pop_sound =
        let w = u.sound in
        let deep = u.there in
        let shorter = top_is in
        record {
          size = shut.size ∙ w.size;
          sizes = omega (arith, shut.sizes, w.sizes);
          few = omega (arith, shut.sizes, w.few);
          only = pop_only;
          own = pop_own;
          free = omega (arith, same_unseen, shut.sizes, w.free);
          inside = λ a l. subst (λ p. p < length seeds) (sym (at_is a (omega arith))) (w.inside a (omega arith));
          apart = λ a b la lb e. w.apart a b (omega arith) (omega arith) (sym (at_is a (omega arith)) ∙ e ∙ at_is b (omega arith));
          some = λ a l. omega (arith, mark_under a (omega arith), w.some a (omega arith));
          low = λ a l. omega (arith, mark_under a (omega arith), w.low a (omega arith));
          back = λ a l. pop_back a (omega arith);
          sorts = λ p l.
              ⊎_elim
              (λ on. inr (inl (done_in p on.0 on.1 on.2 on.3)))
              (λ off.
              let old = others p off in
              ⊎_elim
              (λ z. inl (old.0 ∙ z))
              (⊎_elim
              (λ d. inr (inl (old.0 ∙ d)))
              (λ on. ⊎_elim (λ lt. inr (inr (on.0, omega arith, at_is on.0 lt ∙ on.2))) (λ ge. absurd (off on.0 ge on.1 on.2)) (cases_lt on.0 (top s₀))))
              (w.sorts p l))
              (look s.stack p (top s₀) (top s));
          done = pop_closed;
        }

    pop : Sound none op targets seeds s₀ → Walked none op targets seeds s₀ popped x
    pop w₀ =
        let old_away : (p : ℕ) → p < length seeds → (visit s₀ p ≡ Unseen → ⊥) → (a : ℕ) → top s₀ ≤ a → a < top s → at s a ≡ p → ⊥ =
        λ p l nz a g la e.
        ⊎_elim
        (λ z. nz z)
        (⊎_elim
        (λ d. done_away p (u.kept.visited p l nz ∙ d) a g la e)
        (λ on. under_away on.0 on.1 a g la (e ∙ sym (u.kept.stacked on.0 on.1 ∙ on.2))))
        (w₀.sorts p l) in
        record {
          sound = pop_sound;
          kept = record {
            lent = u.kept.lent;
            visited = λ p l nz. (others p (old_away p l nz)).0 ∙ u.kept.visited p l nz;
            valued = λ p l nz. (others p (old_away p l nz)).1 ∙ u.kept.valued p l nz;
            stacked = λ a l. at_is a l ∙ u.kept.stacked a l;
            fewer = omega (arith, same_unseen, u.kept.fewer);
          };
          ends = inl (top_is, done_in x (top s₀) (omega arith) u.there u.is);
        }

  pub closed : visit s x ≡ Open (top s₀) → {s' : Snapshot M} → LeftStack none (value none s x) (top s₀) s s' → Sound none op targets seeds s₀ → Walked none op targets seeds s₀ s' x
  closed root {s' = s'} shut w₀ =
      let ended = pop (ap rank root) s'.values s'.visits shut.completed w₀ in
      let same : ◌≡◌ {A = Snapshot M} (record { lent = s.lent; values = s'.values; visits = s'.visits; stack = take (top s₀) s.stack }) s' =
      λ i. record { lent = sym shut.lent i; values = s'.values; visits = s'.visits; stack = sym shut.stack i } in
      subst (λ z. Walked none op targets seeds s₀ z x) same ended
