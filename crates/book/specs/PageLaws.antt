-- A page is a book, and its cells are those of the numbers put.
use Rattle.std.specs.Prelude.{◌≡◌, ℕ, ◌+◌, ◌*◌, ◌++◌, length, take}
use Rattle.std.specs.List.{flat_map}
use Rattle.std.proofs.Common.{◌∙◌, ap, sym, arith}
use Rattle.std.proofs.Math.Nat.{mul-zero, mul-add}
use Rattle.std.proofs.Math.Path.{ap₂}
use Rattle.std.proofs.lemmas.List.Edits.{take-paste}
use Rattle.std.proofs.lemmas.List.{take_all}
use Rattle.book.specs.declared.page.Page.{Page}
use Rattle.book.specs.Books.{Laws}
use Rattle.book.specs.Forms.{Form}
use Rattle.book.specs.ReadBack.{length_read, length_written}
use Rattle.book.specs.Growth.{held_fits, grows_none, grows_twice, grows_adds}
use Rattle.book.specs.Pages.{held_by, list_of, free_of, Grows, AsPut, cells_of}

module _ {C : Type 0} {width : ℕ} (f : Form C width) where
  -- What holds of every book holds of a page.
  pub page_laws : Laws (list_of f) free_of (Grows f)
  page_laws = record {
    bounded = λ p. omega (arith, length_read f (held_by p) p.memory.now);
    stays = grows_none f;
    joins = grows_twice f;
    adds = grows_adds f;
  }

  -- On a page that was empty at first, the cells are those of the numbers put.
  pub cells_put : (p : Page C width) → AsPut f (cells_of p) p
  cells_put p first ns empty g =
      let m = first.memory.now in
      let s = flat_map f.cells ns in
      let zero : held_by first ≡ 0 = sym (length_read f (held_by first) m) ∙ ap length empty in
      let end : width * held_by p ≡ width * held_by first + width * length ns = ap (λ k. width * k) g.count ∙ mul-add width (held_by first) (length ns) in
      let written : length s ≡ width * length ns = length_written f ns in
      ap₂ take end g.cells
      ∙ take-paste m (width * held_by first) s (width * length ns) (held_fits f first) (omega (arith, written))
      ∙ ap₂ (λ i rest. take i m ++ rest) (ap (λ k. width * k) zero ∙ mul-zero width) (take_all (width * length ns) s (omega (arith, written)))
