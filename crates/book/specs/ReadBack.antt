-- Numbers that were written are read back as they were.
use Rattle.std.specs.Prelude.{◌≡◌, ℕ, zero, suc, ◌+◌, ◌*◌, ◌≤◌, List, [], ◌∷◌, ◌++◌, length, take, drop, refl}
use Rattle.std.specs.List.{flat_map}
use Rattle.std.proofs.Common.{◌∙◌, ap, sym, arith, length-append, length-drop}
use Rattle.std.proofs.Math.Nat.{zero-add, suc-add, mul-zero, mul-suc}
use Rattle.std.proofs.Math.Path.{ap₂}
use Rattle.std.proofs.Math.Seq.{paste}
use Rattle.std.proofs.lemmas.List.{append_assoc, take_at, drop_at, drop-drop, take-append-le, drop-append-le, take-append-drop, length-take-le}
use Rattle.std.proofs.lemmas.List.Edits.{paste_all}
use Rattle.book.specs.Forms.{Form, read}

module _ {C : Type 0} {width : ℕ} (f : Form C width) where
  -- Numbers fill `width` cells each.
  pub length_written : (ns : List ℕ) → length (flat_map f.cells ns) ≡ width * length ns
  length_written [] = sym (mul-zero width)
  length_written (n ∷ ns) = omega (arith, length-append (f.cells n) (flat_map f.cells ns), f.fills n, length_written ns, mul-suc width (length ns))

  pub length_read : (k : ℕ) (m : List C) → length (read f k m) ≡ k
  length_read zero m = refl
  length_read (suc k) m = ap suc (length_read k (drop width m))

  read_written : (ns : List ℕ) (m : List C) → read f (length ns) (flat_map f.cells ns ++ m) ≡ ns
  read_written [] m = refl
  read_written (n ∷ ns) m =
      let rest = flat_map f.cells ns ++ m in
      ap (read f (suc (length ns))) (append_assoc (f.cells n) (flat_map f.cells ns) m)
      ∙ ap₂ (λ v l. v ∷ read f (length ns) l) (ap f.value (take_at (f.cells n) rest width (f.fills n)) ∙ f.shows n) (drop_at (f.cells n) rest width (f.fills n))
      ∙ ap (λ l. n ∷ l) (read_written ns m)

  read_add : (j k : ℕ) (m : List C) → read f (j + k) m ≡ read f j m ++ read f k (drop (width * j) m)
  read_add zero k m = ap (λ i. read f i m) (zero-add k) ∙ ap (λ i. read f k (drop i m)) (sym (mul-zero width))
  read_add (suc j) k m =
      let next : width + width * j ≡ width * suc j = omega (arith, mul-suc width j) in
      ap (λ i. read f i m) (suc-add j k)
      ∙ ap (λ l. f.value (take width m) ∷ l) (read_add j k (drop width m) ∙ ap (λ l. read f j (drop width m) ++ read f k l) (drop-drop (width * j) width m ∙ ap (λ i. drop i m) next))

  -- The first k numbers are those of the cells that they fill, whatever follows.
  read_append : (k : ℕ) (front m : List C) → length front ≡ width * k → read f k (front ++ m) ≡ read f k front
  read_append zero front m h = refl
  read_append (suc k) front m h =
      let l : width ≤ length front = omega (arith, h, mul-suc width k) in
      let rest : length (drop width front) ≡ width * k = omega (arith, length-drop width front, h, mul-suc width k) in
      ap₂ (λ v r. f.value v ∷ read f k r) (take-append-le width front m l) (drop-append-le width front m l)
      ∙ ap (λ r. f.value (take width front) ∷ r) (read_append k (drop width front) m rest)

  -- Cells that k numbers fill, with others written behind them, show the k numbers and then the others.
  pub read_paste : (m : List C) (k : ℕ) (ns : List ℕ) → width * k ≤ length m → read f (k + length ns) (paste m (width * k) (flat_map f.cells ns) (width * length ns)) ≡ read f k m ++ ns
  read_paste m k ns h =
      let front = take (width * k) m in
      let rest = drop (width * k + width * length ns) m in
      let e : length front ≡ width * k = length-take-le (width * k) m h in
      ap (read f (k + length ns)) (paste_all m (width * k) (flat_map f.cells ns) (width * length ns) (sym (length_written ns)))
      ∙ read_add k (length ns) (front ++ (flat_map f.cells ns ++ rest))
      ∙ ap₂ (λ xs ys. xs ++ ys) (read_append k front _ e ∙ sym (read_append k front (drop (width * k) m) e) ∙ ap (read f k) (take-append-drop (width * k) m)) (ap (read f (length ns)) (drop_at front _ (width * k) e) ∙ read_written ns rest)
