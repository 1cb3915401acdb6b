-- What follows from a gathered list: it is the only one, and tests of its values are traced back to the seeds.
use Rattle.std.proofs.Common.{◌≡◌, ℕ, ◌<◌, Bool, true, ◌||◌, List, length, get_or, sym, refl, ap, ◌∙◌, subst, ⊎_elim, arith}
use Rattle.std.proofs.lemmas.List.{ext_get_or}
use Rattle.std.proofs.lemmas.Bool.{or_cases, or_left}
use Rattle.gather.specs.Gathered.{PartOf, JoinedFrom, seed, both, Gathered, Traced, TracedBy, Once}
use Rattle.gather.specs.Marks.{MarksReached}
use Rattle.gather.specs.Members.{has, MembersReached}
use Rattle.gather.specs.Reach.{ReachesSome}
use Rattle.gather.proofs.Parts.{Lattice}
use Rattle.gather.proofs.Paths.{joined_part}
use Rattle.gather.specs.Sets.{has_unite}

pub once : {M : Type 0} (none : M) (op : M → M → M) → Lattice op → Once none op
once none op laws targets seeds a b p q =
    ext_get_or none a b (p.size ∙ sym q.size) (λ i h.
    let long = p.size in
    let inside : i < length seeds = omega arith in
    sym (joined_part laws (get_or a i none) (λ j r. p.all i j inside r) (q.only i inside))
    ∙ laws.comm (get_or b i none) (get_or a i none)
    ∙ joined_part laws (get_or b i none) (λ j r. q.all i j inside r) (p.only i inside))

-- Any test that is yes of a join exactly where it is yes of one of the two.
module _ {M : Type 0} (none : M) (op : M → M → M) (test : M → Bool) (splits : (x y : M) → test (op x y) ≡ (test x || test y)) where
  joined_back : (targets : ℕ → List ℕ) (seeds : List M) {i : ℕ} {v : M} → JoinedFrom none op targets seeds i v → test v ≡ true → ReachesSome (length seeds) targets i (λ j. test (get_or seeds j none))
  joined_back targets seeds (seed r) h = record { place = _; reached = r; passes = h }
  joined_back targets seeds (both {x} {y} a b) h =
      ⊎_elim (joined_back targets seeds a) (joined_back targets seeds b) (or_cases (test x) (test y) (sym (splits x y) ∙ h))

  part_test : (x y : M) → PartOf op x y → test x ≡ true → test y ≡ true
  part_test x y p h = ap test (sym p) ∙ splits x y ∙ or_left (test x) (test y) h

  pub traced_by : TracedBy none op test
  traced_by targets seeds values g i inside = record {
    back = joined_back targets seeds (g.only i inside);
    forth = λ r. part_test (get_or seeds r.place none) (get_or values i none) (g.all i r.place inside r.reached) r.passes;
  }

  -- The same where the list is known to have n places.
  module _ {n : ℕ} {targets : ℕ → List ℕ} {seeds values : List M} (size : length seeds ≡ n) (g : Gathered none op targets seeds values) (i : ℕ) (inside : i < n) where
    traced : Traced none op targets seeds test values i
    traced = traced_by targets seeds values g i (subst (λ m. i < m) (sym size) inside)

    pub trace_back : test (get_or values i none) ≡ true → ReachesSome n targets i (λ j. test (get_or seeds j none))
    trace_back h = subst (λ m. ReachesSome m targets i (λ j. test (get_or seeds j none))) size (traced.back h)

    pub trace_forth : ReachesSome n targets i (λ j. test (get_or seeds j none)) → test (get_or values i none) ≡ true
    trace_forth r = traced.forth (subst (λ m. ReachesSome m targets i (λ j. test (get_or seeds j none))) (sym size) r)

pub members_reached : MembersReached
members_reached k = traced_by _ _ (λ s. has s k) (λ a b. has_unite a b k)

pub marks_reached : MarksReached
marks_reached = traced_by _ _ _ (λ a b. refl)
