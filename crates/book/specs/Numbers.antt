-- Numbers that are cells themselves.
use Rattle.std.specs.Prelude.{◌≡◌, ℕ, zero, suc, ◌≤◌, List, [], ◌∷◌, length, take, slice_index, refl}
use Rattle.std.proofs.Common.{ap, lit<, arith}
use Rattle.book.specs.Forms.{Form, read}

-- A number is its own cell.
abbrev pub number_form : Form ℕ 1
number_form = record {
  cells = λ n. n ∷ [];
  value = λ cs. slice_index cs 0;
  positive = lit< tt;
  fills = λ n. refl;
  shows = λ n. refl;
}

-- The first k numbers are the first k cells.
pub read_cells : (k : ℕ) (m : List ℕ) → k ≤ length m → read number_form k m ≡ take k m
read_cells zero m h = refl
read_cells (suc k) [] h = absurd (omega arith)
read_cells (suc k) (n ∷ m) h = ap (λ l. n ∷ l) (read_cells k m (omega arith))
