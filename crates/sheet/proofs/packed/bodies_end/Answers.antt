use Rattle.std.proofs.Common.{sym, ◌∙◌, arith}
use Rattle.sheet.proofs.OffLayout.{all_lie, contents_at, contents_length}
use Rattle.sheet.proofs.Packings.{lies_more}
use Rattle.sheet.proofs.packed.bodies_end.Goals as goal

pub loop-rule-preserved : goal.loop-rule-preserved
loop-rule-preserved c =
    let place = c.from.ensures ∙ contents_at c.args.numbers.now c.args.contents.now c.requires.listed c.requires.contents c.loop-rule.rule c.loop-rule-test.true in
    let body = rw c.in_ok-at.ensures.ok_part at c.body_end.ensures in
    lies_more c.args.numbers.now c.loop-rule.rule c.loop-rule.at c.in_ok-at.at c.loop-rule.invariant (sym place ∙ body.0, body.1, body.2)

pub returns : goal.returns
returns c =
    let long = contents_length c.args.numbers.now c.args.contents.now c.requires.listed c.requires.contents in
    all_lie c.args.numbers.now c.loop-rule.rule c.loop-rule.at c.requires.listed (omega (arith, long, c.loop-rule-test.false)) c.loop-rule.invariant.0 c.loop-rule.invariant.1 c.loop-rule.invariant.2
