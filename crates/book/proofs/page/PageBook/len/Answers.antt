use Rattle.std.proofs.Common.{sym, ◌∙◌}
use Rattle.book.specs.ReadBack.{length_read}
use Rattle.book.proofs.page.PageBook.len.Goals as goal

pub returns : goal.returns
returns g c = c.held.ensures ∙ sym (length_read g.C.Cell.form _ c.args.self.now.memory.now)
