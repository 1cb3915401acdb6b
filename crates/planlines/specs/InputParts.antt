-- The two parts of the input.
use Rattle.std.specs.Prelude.{◌≡◌, ℕ, ◌+◌, ◌-◌, ◌<◌, ◌≤◌, ◌⊎◌, List, length, slice_index, take, drop}

-- At this place begins a line that is exactly `=`: nothing or a newline stands before it, the end or a newline behind it.
abbrev pub DividerBegins : List ℕ → ℕ → Type 0
DividerBegins input place = ((place ≡ 0) ⊎ (slice_index input (place - 1) ≡ 10)) × (slice_index input place ≡ 61) × ((place + 1 ≡ length input) ⊎ (slice_index input (place + 1) ≡ 10))

-- The divider, the first such line, begins at this place, or there is none and this is the input's length.
abbrev pub SheetEnds : List ℕ → ℕ → Type 0
SheetEnds input end = (end ≤ length input) × ((place : ℕ) → place < end → DividerBegins input place → ⊥) × (end < length input → DividerBegins input end)

-- The sheet is what stands before the divider, the lines are what stands behind it and its newline.
abbrev pub Divided : List ℕ → List ℕ → List ℕ → Type 0
Divided input sheet lines = (end : ℕ) × SheetEnds input end × (sheet ≡ take end input) × (lines ≡ drop (end + 2) input)
