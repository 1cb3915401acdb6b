use Rattle.std.proofs.Common.{◌*◌, take, ap, ◌∙◌}
use Rattle.book.specs.PageLaws.{cells_put}
use Rattle.book.proofs.page.Page.cells.Goals as goal

pub returns-clause-put : goal.returns-clause-put
returns-clause-put g c first ns empty grown =
    let p = c.args.self.now in
    ap (λ k. take (g.row.WIDTH * k) p.memory.now) c.held.ensures ∙ cells_put g.C.Cell.form p first ns empty grown
