use Rattle.std.proofs.lemmas.Result.{err_from_is_err_and}
use Rattle.written.proofs.written.WrittenSheet.open.Goals as goal

pub returns-in_err-self : goal.returns-in_err-self
returns-in_err-self c = let p = err_from_is_err_and c.from_residual.result c.from_residual.ensures.1 in rw (p.1, p.2) (c.in_err-self.ensures, c.new.ensures)
