-- What the walk keeps: the values, the visits, and the stack of the places whose component is not complete yet.
use Rattle.std.specs.Prelude.{◌≡◌, ℕ, ◌+◌, ◌-◌, ◌<◌, ◌≤◌, ◌⊎◌, List, [], ◌∷◌, ◌++◌, drop, length, take, ◌≢◌, slice_index, slice_index_or, slice_set, count_by}
use Rattle.std.specs.Borrow.{GName}
use Rattle.gather.specs.declared.visit.Visit.{Visit}
use Rattle.gather.specs.declared.visit.Visit.TheVariants.{Unseen, Open, Done}
use Rattle.gather.specs.declared.walk.Walk.{Walk}
use Rattle.gather.specs.Gathered.{PartOf, JoinedFrom}
use Rattle.gather.specs.Reach.{Step, Reaches}
use Rattle.gather.specs.Visits.{is_unseen, lower, rank}

-- How many places are not seen yet.
abbrev pub unseen : List Visit → ℕ
unseen visits = count_by is_unseen visits

-- A walk at one moment: the list that it was lent, by its name and with its values, the visits, and the stack.
pub record Snapshot (M : Type 0) : Type 0 where
  pub lent : GName
  pub values : List M
  pub visits : List Visit
  pub stack : List ℕ

abbrev pub snap : {M : Type 0} → Walk M → Snapshot M
snap w = record { lent = w.values.ghost_name; values = w.values.now; visits = w.visits; stack = w.stack }

-- The value of a place, its visit, and the place at a height of the stack.
abbrev pub value : {M : Type 0} → M → Snapshot M → ℕ → M
value none s p = slice_index_or s.values p none

abbrev pub visit : {M : Type 0} → Snapshot M → ℕ → Visit
visit s p = slice_index_or s.visits p Unseen

abbrev pub at : {M : Type 0} → Snapshot M → ℕ → ℕ
at s a = slice_index s.stack a

abbrev pub top : {M : Type 0} → Snapshot M → ℕ
top s = length s.stack

-- How low a place reaches.
abbrev pub mark : {M : Type 0} → Snapshot M → ℕ → ℕ
mark s p = rank (visit s p)

-- The place x on top of the stack: it is open, and reaches itself.
abbrev pub pushed : {M : Type 0} → Snapshot M → ℕ → Snapshot M
pushed s x = record {
  lent = s.lent;
  values = s.values;
  visits = slice_set s.visits x (Open (top s));
  stack = s.stack ++ x ∷ [];
}

-- The visit and the value of t are taken into those of x.
abbrev pub folded : {M : Type 0} → M → (M → M → M) → Snapshot M → ℕ → ℕ → Snapshot M
folded none op s x t = record {
  lent = s.lent;
  values = slice_set s.values x (op (value none s x) (value none s t));
  visits = slice_set s.visits x (lower (visit s x) (visit s t));
  stack = s.stack;
}

-- These places are done, with the value v, and the other places are as they were.
pub record Completed {M : Type 0} (none v : M) (places : List ℕ) (values values' : List M) (visits visits' : List Visit) : Type 0 where
  pub size : length values' ≡ length values
  pub sizes : length visits' ≡ length visits
  pub visited : (a : ℕ) → a < length places → slice_index_or visits' (slice_index places a) Unseen ≡ Done
  pub valued : (a : ℕ) → a < length places → slice_index_or values' (slice_index places a) none ≡ v
  pub others : (p : ℕ) → ((a : ℕ) → a < length places → slice_index places a ≢ p) → (slice_index_or visits' p Unseen ≡ slice_index_or visits p Unseen) × (slice_index_or values' p none ≡ slice_index_or values p none)

-- The places from the height h of the stack on leave it, done, with the value v.
pub record LeftStack {M : Type 0} (none v : M) (h : ℕ) (s s' : Snapshot M) : Type 0 where
  pub lent : s'.lent ≡ s.lent
  pub completed : Completed none v (drop h s.stack) s.values s'.values s.visits s'.visits
  pub stack : s'.stack ≡ take h s.stack

module _ {M : Type 0} (none : M) (op : M → M → M) (targets : ℕ → List ℕ) (seeds : List M) where
  -- What holds at any moment.
  pub record Sound (s : Snapshot M) : Type 0 where
    -- the lists are long enough
    pub size : length s.values ≡ length seeds
    pub sizes : length seeds ≤ length s.visits
    pub few : length s.visits ≤ 2304
    pub free : top s + unseen s.visits ≤ length s.visits
    -- a value is joined from seeds that are reached, its own among them
    pub only : (p : ℕ) → p < length seeds → JoinedFrom none op targets seeds p (value none s p)
    pub own : (p : ℕ) → p < length seeds → PartOf op (slice_index_or seeds p none) (value none s p)
    -- on the stack are different places, each open, with a mark no higher than where it stands, and it reaches what its mark tells
    pub inside : (a : ℕ) → a < top s → at s a < length seeds
    pub apart : (a b : ℕ) → a < top s → b < top s → at s a ≡ at s b → a ≡ b
    pub some : (a : ℕ) → a < top s → 1 ≤ mark s (at s a)
    pub low : (a : ℕ) → a < top s → mark s (at s a) ≤ a + 1
    pub back : (a : ℕ) → a < top s → Reaches (length seeds) targets (at s a) (at s (mark s (at s a) - 1))
    -- a place is not seen, or done, or on the stack; what is done leads to what is done, whose value is in
    pub sorts : (p : ℕ) → p < length seeds → (visit s p ≡ Unseen) ⊎ ((visit s p ≡ Done) ⊎ ((a : ℕ) × (a < top s) × (at s a ≡ p)))
    pub done : (p t : ℕ) → p < length seeds → visit s p ≡ Done → Step (length seeds) targets p t → (visit s t ≡ Done) × PartOf op (value none s t) (value none s p)

  -- The next place t of p is done, and its value is in that of p, or it is on the stack, and the mark of p tells a place as low.
  abbrev pub TakenIn : Snapshot M → ℕ → ℕ → Type 0
  TakenIn s p t = ((visit s t ≡ Done) × PartOf op (value none s t) (value none s p)) ⊎ ((b : ℕ) × (b < top s) × (at s b ≡ t) × (mark s p ≤ b + 1))

  -- The walk from the place at height a has ended, and it stays on the stack above the place r.
  pub record Settled (s : Snapshot M) (r a : ℕ) : Type 0 where
    pub lower : mark s (at s a) < a + 1
    pub above : mark s r ≤ mark s (at s a)
    pub under : PartOf op (value none s (at s a)) (value none s r)
    pub taken : (t : ℕ) → Step (length seeds) targets (at s a) t → TakenIn s (at s a) t

  -- A walk keeps its list, and leaves alone what was seen before it, and the stack below h; and it sees one place at least.
  pub record Kept (s s' : Snapshot M) (h : ℕ) : Type 0 where
    pub lent : s'.lent ≡ s.lent
    pub visited : (p : ℕ) → p < length seeds → (visit s p ≢ Unseen) → visit s' p ≡ visit s p
    pub valued : (p : ℕ) → p < length seeds → (visit s p ≢ Unseen) → value none s' p ≡ value none s p
    pub stacked : (a : ℕ) → a < h → at s' a ≡ at s a
    pub fewer : unseen s'.visits + 1 ≤ unseen s.visits

  -- The place x stays on the stack, at height h, and what was seen from it above it.
  pub record Stays (s : Snapshot M) (x h : ℕ) : Type 0 where
    pub there : h < top s
    pub is : at s h ≡ x
    pub low : mark s x ≤ h
    pub settled : (a : ℕ) → h < a → a < top s → Settled s x a
    pub taken : (t : ℕ) → Step (length seeds) targets x t → TakenIn s x t

  -- A walk from x ends with x done, or with x on the stack.
  pub record Walked (s s' : Snapshot M) (x : ℕ) : Type 0 where
    pub sound : Sound s'
    pub kept : Kept s s' (top s)
    pub ends : ((top s' ≡ top s) × (visit s' x ≡ Done)) ⊎ Stays s' x (top s)

-- A place that was not seen yet can be walked from.
abbrev pub Ready : {M : Type 0} → M → (M → M → M) → (ℕ → List ℕ) → Snapshot M → ℕ → Type 0
Ready {M} none op targets s x = (seeds : List M) × Sound none op targets seeds s × (x < length seeds) × (visit s x ≡ Unseen)
