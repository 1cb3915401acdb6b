-- The bytes of a text by lines.
use Rattle.std.specs.Prelude.{ℕ, Bool, ◌==◌, not}

abbrev pub is_newline : ℕ → Bool
is_newline b = b == 10

abbrev pub is_within_line : ℕ → Bool
is_within_line b = not (is_newline b)
