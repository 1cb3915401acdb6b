-- How numbers stand in cells of memory.
use Rattle.std.specs.Prelude.{◌≡◌, ℕ, zero, suc, ◌<◌, List, [], ◌∷◌, length, take, drop}

-- A number stands in `width` cells, one at least, and they show it.
pub record Form (C : Type 0) (width : ℕ) : Type 0 where
  -- the cells of a number
  pub cells : ℕ → List C
  -- the number that cells show
  pub value : List C → ℕ
  pub positive : 0 < width
  pub fills : (n : ℕ) → length (cells n) ≡ width
  pub shows : (n : ℕ) → value (cells n) ≡ n

-- The first k numbers that the memory shows.
abbrev pub read : {C : Type 0} {width : ℕ} → Form C width → ℕ → List C → List ℕ
read f zero memory = []
read {width = width} f (suc k) memory = f.value (take width memory) ∷ read f k (drop width memory)
