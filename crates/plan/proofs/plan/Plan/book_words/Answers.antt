use Rattle.line.specs.Answers.{answer_of}
use Rattle.line.specs.TurnRefusals.{told}
use Rattle.plan.proofs.WholeLines.{whole_settled, whole_cleared}
use Rattle.plan.proofs.plan.Plan.book_words.Goals as goal

pub returns-in-Ok-clause-made : goal.returns-in-Ok-clause-made
returns-in-Ok-clause-made g c =
    let b = g.B.Book in
    whole_settled b.list b.free b.grows b.laws c.args.self.now c.judge_words.new.self c.settle.new.self c.args.designer c.args.words.now c.in-Ok.slip (answer_of c.settle.result) c.in-Ok.ensures.made c.settle.ensures.made

pub returns-in-Err-clause-made : goal.returns-in-Err-clause-made
returns-in-Err-clause-made g c =
    let b = g.B.Book in
    whole_cleared b.list b.free b.grows b.laws c.args.self.now c.judge_words.new.self c.clear.new.self c.args.designer c.args.words.now (told c.in-Err.refusal).number (answer_of c.clear.result) c.in-Err.ensures.made c.clear.ensures.kept c.clear.ensures.law
