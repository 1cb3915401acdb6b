use Rattle.std.proofs.Common.{inl, inr}
use Rattle.std.proofs.lemmas.Result.{err_from_is_err_and}
use Rattle.written.specs.Statements.{words_in}
use Rattle.written.specs.Tokens.{tokens}
use Rattle.written.specs.Walks.{GivesHead, GivesWord, heads_in}
use Rattle.written.proofs.Distinct.{collected_all, collected_full}
use Rattle.written.proofs.Walking.{heads_yielded, words_yielded}
use Rattle.written.proofs.names.Names.of.Goals as goal

pub returns-in_err-distinct : goal.returns-in_err-distinct
returns-in_err-distinct c ts l =
    let p = err_from_is_err_and c.from_residual.result c.from_residual.ensures.1 in
    rw p.1 (inl (collected_full GivesWord c.new.result (words_in (tokens ts)) _ (words_yielded c.new.result ts (c.new.ensures ts l)) c.in_err-distinct.ensures))

pub returns-in_err-distinct-2 : goal.returns-in_err-distinct-2
returns-in_err-distinct-2 c ts l =
    let p = err_from_is_err_and c.from_residual-in_err-distinct-2.result c.from_residual-in_err-distinct-2.ensures.1 in
    let heads = heads_yielded c.new-2.result ts c.new-2.ensures.between (c.new-2.ensures.tokens ts l) in
    rw p.1 (inr (collected_full GivesHead c.new-2.result (heads_in (tokens ts)) _ heads c.in_err-distinct-2.ensures))

pub returns : goal.returns
returns c ts l =
    let heads = heads_yielded c.new-2.result ts c.new-2.ensures.between (c.new-2.ensures.tokens ts l) in (
      collected_all GivesWord c.new.result (words_in (tokens ts)) c.in_ok-distinct.field-0 (words_yielded c.new.result ts (c.new.ensures ts l)) c.in_ok-distinct.ensures,
      collected_all GivesHead c.new-2.result (heads_in (tokens ts)) c.in_ok-distinct-2.field-0 heads c.in_ok-distinct-2.ensures,
    )
