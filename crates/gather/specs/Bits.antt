-- The bits of a number.
use Rattle.std.specs.Prelude.{ℕ, zero, suc, ◌/◌, ◌%◌, ◌^◌, Bool, false, ◌==◌}

-- Whether the bit at place k is 1; the lowest bit is at place 0.
abbrev pub is_bit : ℕ → ℕ → Bool
is_bit zero k = false
is_bit (suc n) k = suc n / 2 ^ k % 2 == 1
