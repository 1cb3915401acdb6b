-- Lists of word sets, by place.
use Rattle.std.specs.Prelude.{◌≡◌, ℕ, ◌<◌, true, List, slice_index_or}
use Rattle.gather.specs.Members.{has, no_members}
use Rattle.gather.specs.declared.word_set.WordSet.{WordSet}

-- The words of the set below n are exactly those of which P holds, and the others are of those too.
pub record WordsBelow (P : ℕ → Type 0) (n : ℕ) (x : WordSet) : Type 0 where
  pub sound : (w : ℕ) → has x w ≡ true → P w
  pub whole : (w : ℕ) → w < n → P w → has x w ≡ true

-- The words of the set at each place below n are exactly those of which P holds there.
pub record SetsOf (P : ℕ → ℕ → Type 0) (n : ℕ) (l : List WordSet) : Type 0 where
  pub sound : (i w : ℕ) → i < n → has (slice_index_or l i no_members) w ≡ true → P i w
  pub whole : (i w : ℕ) → i < n → P i w → has (slice_index_or l i no_members) w ≡ true
