use Rattle.std.proofs.Common.{◌≡◌, ℕ, ◌+◌, ◌*◌, ◌/◌, ◌<◌, ◌≤◌, min, true, List, [], ◌∷◌, length, ap, refl, sym, subst, ◌∙◌, append-nil, arith}
use borrow.Rule.Slice.PartMut.{put_mid}
use Rattle.std.specs.List.{flat_map}
use Rattle.std.proofs.Math.Nat.{le-div_iff_mul-le, mul_comm, mul-one}
use Rattle.std.proofs.Math.Seq.{paste}
use Rattle.std.proofs.lemmas.Slice.{put_mid-paste}
use Rattle.book.proofs.Entering.{grown_entered}
use Rattle.book.specs.declared.page.Page.{Page}
use Rattle.book.specs.Books.{Entered}
use Rattle.book.specs.Forms.{Form}
use Rattle.book.specs.Growth.{written_length}
use Rattle.book.specs.ReadBack.{length_written}
use Rattle.book.specs.PageLaws.{page_laws}
use Rattle.book.specs.Pages.{capacity_of, held_by, list_of, free_of, Grows}
use Rattle.book.proofs.page.PageBook.put.Goals as goal

-- A number whose cells are written behind the `h` numbers held is entered.
entered : {C : Type 0} {width : ℕ} (f : Form C width) (p q : Page C width) (n h k : ℕ) (cells : List C) → 0 < free_of p → h ≡ held_by p → q.memory.ghost_name ≡ p.memory.ghost_name → q.used ≡ h + 1 → q.memory.now ≡ put_mid (width * h) k p.memory.now cells → k ≡ width → cells ≡ f.cells n → Entered (list_of f) free_of (Grows f) p (n ∷ []) true q
entered {width = width} f p q n h k cells room held same used put whole written =
    let ns = n ∷ [] in
    let m = p.memory.now in
    let within : held_by p + 1 ≤ length m / width = omega arith in
    let fits : width * (held_by p + 1) ≤ length m = subst (λ j. j ≤ length m) (mul_comm (held_by p + 1) width) ((le-div_iff_mul-le f.positive).0 within) in
    let one : width * length ns ≡ width = mul-one width in
    let pasted : q.memory.now ≡ paste m (width * held_by p) (flat_map f.cells ns) (width * length ns) = put ∙ ap (λ j. put_mid (width * j) k m cells) held ∙ put_mid-paste (width * held_by p) k m cells _ _ (written ∙ sym (append-nil (f.cells n))) (one ∙ sym whole) (sym (length_written f ns)) in
    let capacity : capacity_of q ≡ capacity_of p = ap (λ l. min (l / width) 65536) (written_length f p ns q.memory.now fits pasted) in
    let grown : Grows f p ns q = record { same = same; fits = fits; count = omega (arith, room, held, used, capacity); cells = pasted } in
    grown_entered (page_laws f) p q ns grown

pub returns : goal.returns
returns g c = entered g.C.Cell.form c.args.self.now _ c.args.number _ _ _ (omega (arith, c.free.ensures, c.if-free-eq0.false)) c.held-held.ensures refl refl refl (omega arith) (c.copy_from_slice.ensures.after ∙ c.cells.ensures)
