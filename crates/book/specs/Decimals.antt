-- Numbers as lines of five decimal digits.
use Rattle.std.specs.Prelude.{◌≡◌, ℕ, ◌+◌, ◌-◌, ◌*◌, ◌/◌, ◌%◌, List, [], ◌∷◌, slice_index, refl}
use Rattle.std.proofs.Common.{lit<, arith}
use Rattle.book.specs.Forms.{Form}

-- A number below 100,000 as five digits and a newline, in ASCII.
abbrev pub six_bytes : ℕ → List ℕ
six_bytes n = (48 + n / 10000) ∷ (48 + n / 1000 % 10) ∷ (48 + n / 100 % 10) ∷ (48 + n / 10 % 10) ∷ (48 + n % 10) ∷ 10 ∷ []

-- The number whose digits are the first five bytes.
abbrev pub line_value : List ℕ → ℕ
line_value bs =
    10000 * (slice_index bs 0 - 48) + 1000 * (slice_index bs 1 - 48) + 100 * (slice_index bs 2 - 48) + 10 * (slice_index bs 3 - 48) + (slice_index bs 4 - 48)

pub line_value_six_bytes : (n : ℕ) → line_value (six_bytes n) ≡ n
line_value_six_bytes n =
    let a : n / 100 ≡ n / 10 / 10 = omega arith in
    let b : n / 1000 ≡ n / 100 / 10 = omega arith in
    let c : n / 10000 ≡ n / 1000 / 10 = omega arith in
    omega arith

-- A number is a line.
abbrev pub printed_form : Form ℕ 6
printed_form = record {
  cells = six_bytes;
  value = line_value;
  positive = lit< tt;
  fills = λ n. refl;
  shows = line_value_six_bytes;
}
