use Rattle.std.proofs.Common.{◌≡◌, [], refl, sym, rules, Ok, Err}
use Rattle.written.specs.Tokens.{tokens}
use Rattle.written.specs.NamesOf.{NamesIn}
use Rattle.std.proofs.lemmas.Bool.{true≢false}
use Rattle.std.proofs.lemmas.Result.{err_from_is_err_and}
use Rattle.bounded.specs.BoundedList.{listed}
use Rattle.written.specs.WrittenSheets.{off_limits}
use Rattle.written.proofs.FilledSheets.{contents_are, counts_off, names_off, no_rules_off, rules_off, sheet_within}
use Rattle.written.proofs.written.WrittenSheet.read.Goals as goal

pub returns-in_err-names : goal.returns-in_err-names
returns-in_err-names c =
    let W = c.in_default.ensures.form in
    let p = err_from_is_err_and c.from_residual.result c.from_residual.ensures.1 in
    let in_text : NamesIn (Err c.in_err-names.field-0.0) (tokens W.placed) = search (rules, c.of.ensures W.placed W.written.laid, c.in_err-names.was) in
    rw (p.1, p.2) (off_limits W.written c.in_default.ensures.headed (names_off W.placed W.statements W.written _ in_text))

pub returns-then-not-counts_within : goal.returns-then-not-counts_within
returns-then-not-counts_within c =
    let W = c.in_default.ensures.form in
    let in_text : NamesIn (Ok c.in_ok-names.names) (tokens W.placed) = search (rules, c.of.ensures W.placed W.written.laid) in
    off_limits W.written c.in_default.ensures.headed (counts_off W.placed W.statements W.written c.in_ok-names.names in_text (λ h. true≢false (sym (c.if-not-counts_within.ensures.1 h))))

pub returns-in_err-rules : goal.returns-in_err-rules
returns-in_err-rules c =
    let W = c.in_default.ensures.form in
    let in_text : NamesIn (Ok c.in_ok-names.names) (tokens W.placed) = search (rules, c.of.ensures W.placed W.written.laid) in
    let p = err_from_is_err_and c.from_residual-in_err-rules.result c.from_residual-in_err-rules.ensures.1 in
    let off = rules_off W.placed W.statements W.written c.in_ok-names.names in_text _ c.in_default.ensures.headed (c.in_err-rules.ensures W.placed W.written.laid) in
    rw (p.1, p.2, off.0) (off_limits W.written c.in_default.ensures.headed off.1)

pub returns-then-is_empty : goal.returns-then-is_empty
returns-then-is_empty c =
    let W = c.in_default.ensures.form in
    let in_text : NamesIn (Ok c.in_ok-names.names) (tokens W.placed) = search (rules, c.of.ensures W.placed W.written.laid) in
    off_limits W.written c.in_default.ensures.headed (no_rules_off W.placed W.statements W.written c.in_ok-names.names in_text c.in_ok-rules.rules (c.in_ok-rules.ensures W.placed W.written.laid) (c.if-is_empty.ensures.0 refl))

pub returns : goal.returns
returns c =
    let W = c.in_default.ensures.form in
    let names : NamesIn (Ok c.in_ok-names.names) (tokens W.placed) = search (rules, c.of.ensures W.placed W.written.laid) in
    let rules = c.in_ok-rules.ensures W.placed W.written.laid in
    let some = λ (e : listed c.in_ok-rules.rules ≡ []). true≢false (sym (c.if-is_empty.ensures.1 e)) in
    let within = sheet_within W.placed W.statements W.written c.in_ok-names.names names c.in_ok-rules.rules rules (c.if-not-counts_within.ensures.0 refl) some in
    (W.statements, record { placed = W.placed; written = W.written; headed = c.in_default.ensures.headed; within = within }, contents_are W.placed W.statements W.written c.in_ok-names.names names c.in_ok-rules.rules rules)
