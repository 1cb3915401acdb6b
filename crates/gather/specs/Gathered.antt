-- What is gathered at each place: the join of exactly the seeds that it reaches.
use Rattle.std.specs.Prelude.{◌≡◌, ℕ, ◌<◌, Bool, true, List, length, slice_index_or}
use Rattle.gather.specs.Reach.{Reaches, ReachesSome}

-- x is part of y: joining it adds nothing.
abbrev pub PartOf : {M : Type 0} → (M → M → M) → M → M → Type 0
PartOf op x y = op x y ≡ y

module _ {M : Type 0} (none : M) (op : M → M → M) (targets : ℕ → List ℕ) (seeds : List M) where
  -- A value joined from seeds of places that i reaches, and from nothing else.
  pub data JoinedFrom (i : ℕ) : M → Type 0 where
    seed : {j : ℕ} → Reaches (length seeds) targets i j → JoinedFrom i (slice_index_or seeds j none)
    both : {x y : M} → JoinedFrom i x → JoinedFrom i y → JoinedFrom i (op x y)

  -- The value at each place is joined from seeds that it reaches, and has every one of them.
  pub record Gathered (values : List M) : Type 0 where
    pub size : length values ≡ length seeds
    pub only : (i : ℕ) → i < length seeds → JoinedFrom i (slice_index_or values i none)
    pub all : (i j : ℕ) → i < length seeds → Reaches (length seeds) targets i j → PartOf op (slice_index_or seeds j none) (slice_index_or values i none)

  -- A test of values says yes of the value at i exactly where i reaches a seed of which it says yes.
  pub record Traced (test : M → Bool) (values : List M) (i : ℕ) : Type 0 where
    pub back : test (slice_index_or values i none) ≡ true → ReachesSome (length seeds) targets i (λ j. test (slice_index_or seeds j none))
    pub forth : ReachesSome (length seeds) targets i (λ j. test (slice_index_or seeds j none)) → test (slice_index_or values i none) ≡ true

-- Two lists that are gathered from the same seeds along the same relation are equal.
abbrev pub Once : {M : Type 0} → M → (M → M → M) → Type 0
Once {M} none op = (targets : ℕ → List ℕ) (seeds a b : List M) → Gathered none op targets seeds a → Gathered none op targets seeds b → a ≡ b

-- Every gathered list traces the test back to the seeds.
abbrev pub TracedBy : {M : Type 0} → M → (M → M → M) → (M → Bool) → Type 0
TracedBy {M} none op test = (targets : ℕ → List ℕ) (seeds values : List M) → Gathered none op targets seeds values → (i : ℕ) → i < length seeds → Traced none op targets seeds test values i
