use Rattle.std.proofs.Common.{refl, ◌∙◌}
use Rattle.std.proofs.lemmas.Result.{err_from_is_err_and}
use Rattle.line.specs.Answers.{answer_of}
use Rattle.line.specs.TurnRefusals.{told}
use Rattle.plan.specs.WholeLines.{no_word}
use Rattle.plan.proofs.LawKept.{judge_law}
use Rattle.plan.proofs.WholeCalls.{words_more, words_refused, words_judged}
use Rattle.plan.proofs.WholeLines.{made_none, taken_more, taken_refused, taken_judged}
use Rattle.plan.proofs.plan.Plan.judge_words.Goals as goal

pub loop-word-init : goal.loop-word-init
loop-word-init g c = let b = g.B.Book in (made_none b.list b.free b.grows b.laws _ c.args.self.now no_word, (refl, refl), refl)

pub loop-word-preserved : goal.loop-word-preserved
loop-word-preserved g c =
    let b = g.B.Book in
    let l = c.loop-word in
    let x = c.in_ok-word.ensures in (
      taken_more b.list b.free b.grows b.laws c.args.designer c.args.words.now l.word-index c.args.self.now l.self c.word.new.self x.kept l.invariant.0 c.loop-word-test.true c.in_ok-word.field-0 x.law,
      (x.kept.0 ∙ l.invariant.1.0, x.kept.1 ∙ l.invariant.1.1),
      words_more c.args.self.now l.self c.word.new.self l.invariant.1.0 c.args.designer c.args.words.now l.word-index l.invariant.2 c.loop-word-test.true c.in_ok-word.field-0 x.step,
    )

pub returns-in_err-word-clause-made : goal.returns-in_err-word-clause-made
returns-in_err-word-clause-made g c =
    let b = g.B.Book in
    let l = c.loop-word in
    let r = err_from_is_err_and c.from_residual.result c.from_residual.ensures.1 in
    let x = c.in_err-word.ensures in
    rw (r.1, r.2) (taken_refused b.list b.free b.grows b.laws c.args.designer c.args.words.now l.word-index c.args.self.now l.self c.word.new.self x.kept l.invariant.0 c.loop-word-test.true (told c.in_err-word.field-0.0).number x.law)

pub returns-clause-made : goal.returns-clause-made
returns-clause-made g c =
    let b = g.B.Book in
    let l = c.loop-word in
    let x = c.judge_line.ensures in
    let law = judge_law b.list b.free l.self c.judge_line.new.self x.kept c.args.designer (answer_of c.judge_line.result) x.step in
    taken_judged b.list b.free b.grows b.laws c.args.designer c.args.words.now l.word-index c.args.self.now l.self c.judge_line.new.self x.kept l.invariant.0 c.loop-word-test.false (answer_of c.judge_line.result) law

pub returns-in_err-word-clause-step : goal.returns-in_err-word-clause-step
returns-in_err-word-clause-step g c =
    let l = c.loop-word in
    let r = err_from_is_err_and c.from_residual.result c.from_residual.ensures.1 in
    rw (r.1, r.2) (words_refused c.args.self.now l.self c.word.new.self l.invariant.1.0 c.args.designer c.args.words.now l.word-index l.invariant.2 c.loop-word-test.true (told c.in_err-word.field-0.0).number c.in_err-word.ensures.step)

pub returns-clause-step : goal.returns-clause-step
returns-clause-step g c =
    let l = c.loop-word in
    words_judged c.args.self.now l.self c.judge_line.new.self l.invariant.1.0 c.args.designer c.args.words.now l.word-index l.invariant.2 c.loop-word-test.false (answer_of c.judge_line.result) c.judge_line.ensures.step
