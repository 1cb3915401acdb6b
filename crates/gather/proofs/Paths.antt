-- Ways from place to place, and what is joined from the seeds at their ends.
use Rattle.std.proofs.Common.{ℕ, ◌<◌, List, length, get_or}
use Rattle.gather.specs.Gathered.{PartOf, JoinedFrom, seed, both}
use Rattle.gather.specs.Reach.{Reaches, here, step}
use Rattle.gather.proofs.Parts.{Lattice, part_both}

-- One way after another.
pub reach_on : {n : ℕ} {targets : ℕ → List ℕ} {i j k : ℕ} → Reaches n targets i j → Reaches n targets j k → Reaches n targets i k
reach_on here r = r
reach_on (step s q) r = step s (reach_on q r)

-- What a place of the list reaches is a place of the list.
pub reach_inside : {n : ℕ} {targets : ℕ → List ℕ} {i j : ℕ} → i < n → Reaches n targets i j → j < n
reach_inside h here = h
reach_inside h (step s r) = reach_inside s.inside r

module _ {M : Type 0} {none : M} {op : M → M → M} {targets : ℕ → List ℕ} {seeds : List M} where
  -- What reaches i reaches all that a value at i is joined from.
  pub joined_on : {i j : ℕ} {v : M} → Reaches (length seeds) targets i j → JoinedFrom none op targets seeds j v → JoinedFrom none op targets seeds i v
  joined_on way (seed r) = seed (reach_on way r)
  joined_on way (both a b) = both (joined_on way a) (joined_on way b)

  -- A value joined from seeds is part of whatever has these seeds.
  pub joined_part : Lattice op → {i : ℕ} {v : M} (u : M) → ((j : ℕ) → Reaches (length seeds) targets i j → PartOf op (get_or seeds j none) u) → JoinedFrom none op targets seeds i v → PartOf op v u
  joined_part laws u has (seed r) = has _ r
  joined_part laws u has (both a b) = part_both laws _ _ u (joined_part laws u has a) (joined_part laws u has b)
