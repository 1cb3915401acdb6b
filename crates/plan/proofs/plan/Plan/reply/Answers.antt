use Rattle.line.specs.Answers.{given, refused}
use Rattle.line.specs.TurnRefusals.{told}
use Rattle.plan.specs.Turns.{word, clear}
use Rattle.plan.specs.Requests.{taken, not_taken, cleared, not_cleared}
use Rattle.plan.proofs.WholeLines.{made_turn}
use Rattle.plan.proofs.plan.Plan.reply.Goals as goal

pub returns-in-Ok : goal.returns-in-Ok
returns-in-Ok g c =
    let b = g.B.Book in
    let d = c.in-Word.designer in
    let w = c.in-Word.word in
    let n = c.in-Ok.count in
    let y = c.in-Ok.ensures in
    rw c.in-Word.is (made_turn b.list b.free b.grows b.laws _ c.args.self.now c.word.new.self (word d w (given n)) y.kept y.law (taken d w n))

pub returns-in-Err : goal.returns-in-Err
returns-in-Err g c =
    let b = g.B.Book in
    let d = c.in-Word.designer in
    let w = c.in-Word.word in
    let e = c.in-Err.refusal in
    let y = c.in-Err.ensures in
    rw c.in-Word.is (made_turn b.list b.free b.grows b.laws _ c.args.self.now c.word.new.self (word d w (refused (told e).number)) y.kept y.law (not_taken d w e))

pub returns-in-Ok-clear : goal.returns-in-Ok-clear
returns-in-Ok-clear g c =
    let b = g.B.Book in
    let d = c.in-Clear.designer in
    let y = c.in-Ok-clear.ensures in
    rw c.in-Clear.is (made_turn b.list b.free b.grows b.laws _ c.args.self.now c.clear.new.self (clear d (given tt)) y.kept y.law (cleared d))

pub returns-in-Err-clear : goal.returns-in-Err-clear
returns-in-Err-clear g c =
    let b = g.B.Book in
    let d = c.in-Clear.designer in
    let e = c.in-Err-clear.refusal in
    let y = c.in-Err-clear.ensures in
    rw c.in-Clear.is (made_turn b.list b.free b.grows b.laws _ c.args.self.now c.clear.new.self (clear d (refused (told e).number)) y.kept y.law (not_cleared d e))
