-- Where the walks begin and end.
use Rattle.std.proofs.Common.{◌≡◌, ℕ, ◌+◌, ◌<◌, ◌≤◌, List, [], length, get_or, sym, refl, ap, ◌∙◌, subst, inl, ⊎_elim, arith}
use Rattle.std.specs.Borrow.{GName}
use Rattle.std.proofs.lemmas.List.Sums.{count_by-le-length}
use Rattle.std.proofs.lemmas.Bool.{cases_order}
use Rattle.gather.specs.Gathered.{PartOf, seed, Gathered}
use Rattle.gather.specs.Reach.{Reaches, here, step}
use Rattle.gather.specs.declared.visit.Visit.{Visit}
use Rattle.gather.specs.declared.visit.Visit.TheVariants.{Unseen, Done}
use Rattle.gather.specs.Stack.{Snapshot, value, visit, mark, top, Sound, Walked}
use Rattle.gather.specs.Visits.{is_unseen, rank}
use Rattle.gather.proofs.Parts.{Lattice, part_trans}

module _ {M : Type 0} {none : M} {op : M → M → M} (laws : Lattice op) {targets : ℕ → List ℕ} {seeds : List M} where
  -- Nothing is seen, and the values are the seeds.
  pub begin : (lent : GName) (visits : List Visit) (stack : List ℕ) → stack ≡ [] → length visits ≡ 2304 → ((p : ℕ) → p < 2304 → get_or visits p Unseen ≡ Unseen) → length seeds ≤ 2304 → Sound none op targets seeds (record { lent = lent; values = seeds; visits = visits; stack = stack })
  begin lent visits stack empty long blank few =
      let flat : length stack ≡ 0 = ap length empty in
      let fresh : (p : ℕ) → p < length seeds → get_or visits p Unseen ≡ Unseen = λ p l. blank p (omega arith) in
      record {
        size = refl;
        sizes = omega arith;
        few = omega arith;
        free = omega (arith, count_by-le-length is_unseen visits);
        only = λ p l. seed here;
        own = λ p l. laws.idem (get_or seeds p none);
        inside = λ a l. absurd (omega arith);
        apart = λ a b l. absurd (omega arith);
        some = λ a l. absurd (omega arith);
        low = λ a l. absurd (omega arith);
        back = λ a l. absurd (omega arith);
        sorts = λ p l. inl (fresh p l);
        done = λ p t l d. absurd (omega (arith, ap rank (sym (fresh p l) ∙ d)));
      }

-- Between two walks: the stack is empty, and every place below i is done.
pub record Between {M : Type 0} (none : M) (op : M → M → M) (targets : ℕ → List ℕ) (seeds : List M) (s : Snapshot M) (i : ℕ) : Type 0 where
  pub sound : Sound none op targets seeds s
  pub empty : top s ≡ 0
  pub done : (p : ℕ) → p < i → p < length seeds → visit s p ≡ Done

module _ {M : Type 0} {none : M} {op : M → M → M} {targets : ℕ → List ℕ} {seeds : List M} {s : Snapshot M} {i : ℕ} (inside : i < length seeds) (b : Between none op targets seeds s i) where
  -- A place that was seen before is done.
  pub pass_seen : (visit s i ≡ Unseen → ⊥) → Between none op targets seeds s (i + 1)
  pass_seen seen =
      let here : visit s i ≡ Done = ⊎_elim (λ z. absurd (seen z)) (⊎_elim (λ d. d) (λ on. absurd (omega (arith, on.1, b.empty)))) (b.sound.sorts i inside) in
      record {
        sound = b.sound;
        empty = b.empty;
        done = λ p l m. ⊎_elim (λ e. ap (visit s) e ∙ here) (⊎_elim (λ lt. b.done p lt m) (λ gt. absurd (omega arith))) (cases_order p i);
      }

  -- A walk that begins with an empty stack ends with an empty stack, and with its place done.
  pub pass_walked : {s' : Snapshot M} → Walked none op targets seeds s s' i → Between none op targets seeds s' (i + 1)
  pass_walked {s' = s'} w =
      let ended : ((top s') ≡ (top s)) × (visit s' i ≡ Done) =
      ⊎_elim (λ e. e) (λ y. absurd (omega (arith, y.low, b.empty, ap (mark s') y.is, w.sound.some (top s) y.there))) w.ends in
      record {
        sound = w.sound;
        empty = ended.0 ∙ b.empty;
        done = λ p l m.
            ⊎_elim
            (λ e. ap (visit s') e ∙ ended.1)
            (⊎_elim (λ lt. let old = b.done p lt m in w.kept.visited p m (λ z. omega (arith, ap rank (sym old ∙ z))) ∙ old) (λ gt. absurd (omega arith)))
            (cases_order p i);
      }

pub between_as : {M : Type 0} {none : M} {op : M → M → M} {targets : ℕ → List ℕ} {seeds : List M} {s s' : Snapshot M} {i : ℕ} → s' ≡ s → Between none op targets seeds s i → Between none op targets seeds s' i
between_as {none = none} {op = op} {targets = targets} {seeds = seeds} {i = i} e = subst (λ z. Between none op targets seeds z i) (sym e)

-- Every place is done.
module _ {M : Type 0} {none : M} {op : M → M → M} (laws : Lattice op) {targets : ℕ → List ℕ} {seeds : List M} {s : Snapshot M} (b : Between none op targets seeds s (length seeds)) where
  all_reached : (i j : ℕ) → i < length seeds → Reaches (length seeds) targets i j → PartOf op (get_or seeds j none) (value none s i)
  all_reached i j l here = b.sound.own i l
  all_reached i j l (step hop r) = part_trans laws _ _ _ (all_reached _ j hop.inside r) (b.sound.done i _ l (b.done i l l) hop).1

  pub finish : Gathered none op targets seeds s.values
  finish = record { size = b.sound.size; only = b.sound.only; all = all_reached }
