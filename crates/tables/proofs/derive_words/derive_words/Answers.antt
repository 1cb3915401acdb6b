use Rattle.std.proofs.Common.{sym, ◌∙◌, subst, arith}
use Rattle.tables.specs.Arrays.{grammar_of}
use Rattle.tables.specs.CodeMarks.{MarksOf}
use Rattle.tables.specs.DeriveWords.{DerivesWords}
use Rattle.tables.proofs.RuleArrays.{terminals_is}
use Rattle.tables.proofs.DerivingRounds.{begun, fewer, round, all_rounds, nullable_marks, productive_marks}
use Rattle.tables.proofs.derive_words.derive_words.Goals as goal

pub loop-r-init : goal.loop-r-init
loop-r-init c = begun c.args.rules.now c.args.words c.first_codes-marks.result c.requires (omega arith) c.first_codes-marks.ensures

pub loop-r-smaller : goal.loop-r-smaller
loop-r-smaller c = rw c.from.ensures (fewer c.args.rules.now c.args.words c.loop-r.marks c.in-Some.r c.loop-r.invariant c.in-Some.ensures)

pub loop-r-preserved : goal.loop-r-preserved
loop-r-preserved c = rw c.from.ensures (round c.args.rules.now c.args.words c.loop-r.marks c.in-Some.r c.loop-r.invariant c.in-Some.ensures)

pub returns : goal.returns
returns c =
    let R = c.args.rules.now in
    let m = all_rounds R c.args.words c.loop-r.marks c.loop-r.invariant c.in_default.ensures in
    record {
      exact = m;
      none = λ e. nullable_marks (grammar_of R) c.loop-r.marks (subst (λ n. MarksOf (DerivesWords (grammar_of R) n) c.loop-r.marks) e m);
      all = λ e. productive_marks (grammar_of R) c.loop-r.marks (subst (λ n. MarksOf (DerivesWords (grammar_of R) n) c.loop-r.marks) (e ∙ sym (terminals_is R)) m);
    }
