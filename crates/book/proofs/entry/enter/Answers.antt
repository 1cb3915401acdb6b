use Rattle.std.proofs.Common.{subst, arith}
use Rattle.std.proofs.lemmas.List.{take_all}
use Rattle.book.proofs.Entering.{grown_entered, grows_more}
use Rattle.book.proofs.entry.enter.Goals as goal

pub loop-number-preserved : goal.loop-number-preserved
loop-number-preserved g c =
    grows_more g.B.Book.laws _ c.loop-number.book c.put.new.self c.args.numbers.now c.loop-number.number-index c.put.result (omega arith) c.loop-number-test.true c.loop-number.invariant c.put.ensures

pub returns : goal.returns
returns g c =
    let book = g.B.Book in
    let ns = c.args.numbers.now in
    let b = c.loop-number.book in
    let grown : book.grows c.args.book.now ns b = subst (λ xs. book.grows c.args.book.now xs b) (take_all c.loop-number.number-index ns (omega arith)) c.loop-number.invariant in
    grown_entered book.laws c.args.book.now b ns grown
