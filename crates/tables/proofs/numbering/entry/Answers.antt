use Rattle.std.proofs.Common.{◌≡◌, false, get_or, refl, ap, ◌∙◌, rules, arith}
use Rattle.std.proofs.lemmas.Bool.{both_ways}
use Rattle.grammar.specs.Refusals.{states}
use Rattle.grammar.specs.States.{Crowded}
use Rattle.tables.specs.declared.build_refusal.BuildRefusal.TheVariants.{States}
use Rattle.tables.specs.Arrays.{grammar_of}
use Rattle.tables.specs.BuildRefusals.{told}
use Rattle.tables.proofs.StateArrays.{placed_keeps, is_code, step_more, step_none, step_full}
use Rattle.tables.proofs.numbering.entry.Goals as goal
use Rattle.tables.proofs.numbering.entry.Goals.{then-ahead-from+in_ok-to, else-ahead-from}

pub returns-in_err-to : goal.returns-in_err-to
returns-in_err-to c =
    let R = c.args.rules.now in
    let X = c.args.code in
    let v = c.requires.row in
    let placed = rw c.in_err-to.ensures.ok_part at c.place.ensures.placed in
    let value = rw c.in_err-to.ensures.ok_part at c.in_err-to.ensures.value in
    let crowded : Crowded (grammar_of R) = step_full R v.sofar v.state v.is (is_code R X c.requires.code.0 c.requires.code.1) c.complete.array_long (c.requires.waiting.from X (rw c.from.ensures at c.if-ahead-from.true)) c.advance-items.ensures c.complete.ensures placed refl in
    let is : c.in_err-to.field-0.0 ≡ States = cc in
    let tells : told c.in_err-to.field-0.0 ≡ states = ap told is in
    search rules

pub returns : goal.returns
returns c =
    let R = c.args.rules.now in
    let s = c.args.s in
    let X = c.args.code in
    let v = c.requires.row in
    let code = is_code R X c.requires.code.0 c.requires.code.1 in
    elim c.if-ahead-from.branch [
      | then-ahead-from+in_ok-to w ↦
          let placed = rw w.in_ok-to.ensures.ok_part at w.place.ensures.placed in
          let k = placed_keeps placed.1 s v.state in
          record {
            state = rw w.lookup-is (omega (arith, v.state, k.0));
            is = rw w.lookup-is (k.1 ∙ v.is);
            sofar = rw (w.lookup-is, w.to-is, w.place.ensures.kept, c.from-2.ensures) (step_more R v.sofar v.state v.is code w.complete.array_long (c.requires.waiting.from X (rw c.from.ensures at w.if-ahead-from.true)) w.advance-items.ensures w.complete.ensures placed.1 (λ e. omega (arith, placed.0)));
          }
      | else-ahead-from w ↦
          record {
            state = rw w.lookup-is v.state;
            is = rw w.lookup-is v.is;
            sofar = rw (w.lookup-is, w.to-is, c.from-2.ensures) (step_none R _ _ _ s X c.args.from.now v.sofar v.state v.is code λ h. both_ways (get_or c.args.ahead.now X false) (rw c.from.ensures at w.if-ahead-from.false) (c.requires.waiting.onto X c.requires.code.0 h));
          }
    ]
