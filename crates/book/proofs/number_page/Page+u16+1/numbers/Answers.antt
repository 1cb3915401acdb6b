use Rattle.std.proofs.Common.{◌≡◌, ◌*◌, take, ap, sym, ◌∙◌, arith}
use Rattle.book.specs.Numbers.{read_cells}
use Rattle.book.specs.Pages.{held_by}
use Rattle.book.proofs.number_page.Page+u16+1.numbers.Goals as goal

pub returns-clause-list : goal.returns-clause-list
returns-clause-list c =
    let p = c.args.self.now in
    let one : 1 * held_by p ≡ held_by p = omega arith in
    c.cells.ensures.part ∙ ap (λ k. take k p.memory.now) one ∙ sym (read_cells (held_by p) p.memory.now (omega arith))
