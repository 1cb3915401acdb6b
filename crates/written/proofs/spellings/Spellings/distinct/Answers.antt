use Rattle.std.proofs.Common.{rules}
use Rattle.std.proofs.lemmas.Result.{err_from_is_err_and}
use Rattle.written.specs.Spelled.{spelled}
use Rattle.written.proofs.Distinct.{collects_full, distinct_none, noted_more}
use Rattle.written.proofs.spellings.Spellings.distinct.Goals as goal

pub loop-spelling-init : goal.loop-spelling-init
loop-spelling-init g c = let none = distinct_none in search rules

pub loop-spelling-preserved : goal.loop-spelling-preserved
loop-spelling-preserved g c = let more = noted_more (spelled c.loop-spelling.out) (spelled c.note.new.self) c.loop-spelling.yielded c.in-Some.spelling c.loop-spelling.invariant.2 c.in_ok-note.ensures in search rules

pub returns-in_err-note : goal.returns-in_err-note
returns-in_err-note g c =
    let p = err_from_is_err_and c.from_residual.result c.from_residual.ensures.1 in
    rw (p.1, ← c.into_iter-spelling-iterator.ensures.into_iter_gives) (collects_full g.I.Iterator.next_gives _ _ _ c.loop-spelling.yielded c.in-Some.spelling (spelled c.loop-spelling.out) _ c.loop-spelling.yielded_by c.in-Some.ensures.steps c.loop-spelling.invariant.2 c.in_err-note.ensures)
