-- To grow by nothing, to grow twice, and what a page that grew holds.
use Rattle.std.specs.Prelude.{◌≡◌, ℕ, ◌+◌, ◌*◌, ◌/◌, ◌≤◌, min, List, [], ◌++◌, length, refl}
use Rattle.std.specs.List.{flat_map}
use Rattle.std.proofs.Common.{◌∙◌, ap, sym, subst, arith, add-zero, length-append}
use Rattle.std.proofs.Math.Nat.{mul-zero, mul-add, le-div_iff_mul-le, mul_comm}
use Rattle.std.proofs.Math.Path.{ap₂}
use Rattle.std.proofs.Math.Seq.{paste}
use Rattle.std.proofs.lemmas.Grind.{flat_map-append}
use Rattle.std.proofs.lemmas.List.Edits.{paste_none, length-paste, paste-paste}
use Rattle.book.specs.declared.page.Page.{Page}
use Rattle.book.specs.Forms.{Form, read}
use Rattle.book.specs.ReadBack.{length_written, read_paste}
use Rattle.book.specs.Pages.{capacity_of, held_by, list_of, free_of, Grows}

module _ {C : Type 0} {width : ℕ} (f : Form C width) where
  -- What a page holds lies in its memory.
  pub held_fits : (p : Page C width) → width * held_by p ≤ length p.memory.now
  held_fits p =
      let within : held_by p ≤ length p.memory.now / width = omega arith in
      subst (λ k. k ≤ length p.memory.now) (mul_comm (held_by p) width) ((le-div_iff_mul-le f.positive).0 within)

  -- Memory that numbers are written into keeps its length.
  pub written_length : (p : Page C width) (ns : List ℕ) (memory : List C) → width * (held_by p + length ns) ≤ length p.memory.now → memory ≡ paste p.memory.now (width * held_by p) (flat_map f.cells ns) (width * length ns) → length memory ≡ length p.memory.now
  written_length p ns memory fits cells =
      ap length cells ∙ length-paste p.memory.now (width * held_by p) (flat_map f.cells ns) (width * length ns) (omega (arith, fits, mul-add width (held_by p) (length ns))) (omega (arith, length_written f ns))

  pub grown_length : (p : Page C width) (ns : List ℕ) (q : Page C width) → Grows f p ns q → length q.memory.now ≡ length p.memory.now
  grown_length p ns q g = written_length p ns q.memory.now g.fits g.cells

  pub grows_none : (p : Page C width) → Grows f p [] p
  grows_none p = record {
    same = refl;
    fits = subst (λ (k : ℕ). width * k ≤ length p.memory.now) (sym (add-zero (held_by p))) (held_fits p);
    count = sym (add-zero (held_by p));
    cells = paste_none p.memory.now (width * held_by p) [] ∙ ap (paste p.memory.now (width * held_by p) []) (sym (mul-zero width));
  }

  pub grows_twice : (a b c : Page C width) (xs ys : List ℕ) → Grows f a xs b → Grows f b ys c → Grows f a (xs ++ ys) c
  grows_twice a b c xs ys g h =
      let n : length (xs ++ ys) ≡ length xs + length ys = length-append xs ys in
      let at : width * held_by b ≡ width * held_by a + width * length xs = ap (λ k. width * k) g.count ∙ mul-add width (held_by a) (length xs) in
      let count : held_by c ≡ held_by a + length (xs ++ ys) = omega (arith, g.count, h.count, n) in
      record {
        same = h.same ∙ g.same;
        fits = omega (arith, held_fits c, ap (λ k. width * k) count, grown_length a xs b g, grown_length b ys c h);
        count = count;
        cells =
            h.cells
            ∙ ap₂ (λ m i. paste m i (flat_map f.cells ys) (width * length ys)) g.cells at
            ∙ paste-paste a.memory.now (width * held_by a) (flat_map f.cells xs) (flat_map f.cells ys) (width * length xs) (width * length ys) (sym (length_written f xs)) (sym (length_written f ys)) (held_fits a)
            ∙ ap₂ (paste a.memory.now (width * held_by a)) (sym (flat_map-append f.cells xs ys)) (sym (mul-add width (length xs) (length ys)) ∙ ap (λ k. width * k) (sym n));
      }

  -- A page that grew by numbers shows them behind its own, and has so many fewer free.
  pub grows_adds : (p q : Page C width) (ns : List ℕ) → Grows f p ns q → (list_of f q ≡ list_of f p ++ ns) × (free_of p ≡ free_of q + length ns)
  grows_adds p q ns g =
      let capacity : capacity_of q ≡ capacity_of p = ap (λ n. min (n / width) 65536) (grown_length p ns q g) in
      (ap₂ (read f) g.count g.cells ∙ read_paste f p.memory.now (held_by p) ns (held_fits p), omega (arith, capacity, g.count))
