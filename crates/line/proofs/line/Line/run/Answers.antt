use Rattle.std.proofs.Common.{◌≡◌, ◌+◌, ◌≤◌, length, refl, arith, Some, None}
use Rattle.std.proofs.lemmas.Result.{err_from_is_err_and}
use Rattle.grammar.specs.declared.action.Action.TheVariants.{Shift, Accept, Reduce}
use Rattle.tables.specs.HeldReadings.{cell_of}
use Rattle.std.proofs.lemmas.List.{length-take-le}
use Rattle.tables.specs.Building.{held}
use Rattle.line.specs.PlanLines.{plan_line_of}
use Rattle.line.proofs.HeldStates.{rule_in}
use Rattle.line.proofs.MachineOnLines.{midway_first, midway_reduced, midway_refused, midway_none, midway_shift, midway_accept, reduction_longer, kept_on}
use Rattle.line.proofs.line.Line.run.Goals as goal

pub loop-to-init : goal.loop-to-init
loop-to-init c = (midway_first (held c.args.tables.now) c.args.word (plan_line_of c.args.self.now).line, record { status = refl; count = refl; steps = omega arith })

pub loop-to-preserved : goal.loop-to-preserved
loop-to-preserved c =
    let t = c.args.tables.now in
    let l = (plan_line_of c.args.self.now).line in
    let k = (plan_line_of c.loop-to.self).line in
    let m = (plan_line_of c.reduce.new.self).line in
    let cell : Some (Reduce c.in-Some-Reduce.rule) ≡ cell_of (held t) c.top.result c.args.word = cc c.in-Some-Reduce.ensures in
    let done = c.in_ok-reduce-in-Some-Reduce.ensures in (
      midway_reduced c.args.word c.top.result c.in-Some-Reduce.rule _ (held t) l k m (rule_in t c.top.result c.args.word c.in-Some-Reduce.rule cell) c.top.ensures cell c.loop-to.invariant.0 done.reduced,
      kept_on c.loop-to.invariant.1 done.kept,
    )

pub loop-to-smaller : goal.loop-to-smaller
loop-to-smaller c =
    let t = c.args.tables.now in
    let k = c.loop-to.self in
    let m = c.reduce.new.self in
    let more : length (plan_line_of m).line.rules ≡ length (plan_line_of k).line.rules + 1 = reduction_longer (held t) (plan_line_of k).line c.in-Some-Reduce.rule (plan_line_of m).line c.in_ok-reduce-in-Some-Reduce.ensures.reduced in
    let fits : m.steps ≤ length m.rules = omega arith in
    omega (arith, more, length-take-le m.steps m.rules fits)

pub returns-in-Some-Shift : goal.returns-in-Some-Shift
returns-in-Some-Shift c =
    let cell : Some (Shift c.in-Some-Shift.to) ≡ cell_of (held c.args.tables.now) c.top.result c.args.word = cc c.in-Some-Shift.ensures in
    record {
      ran = midway_shift c.args.word c.top.result _ (held c.args.tables.now) (plan_line_of c.args.self.now).line (plan_line_of c.loop-to.self).line c.in-Some-Shift.to c.top.ensures cell c.loop-to.invariant.0;
      kept = c.loop-to.invariant.1;
    }

pub returns-in-Some-Accept : goal.returns-in-Some-Accept
returns-in-Some-Accept c =
    let cell : Some Accept ≡ cell_of (held c.args.tables.now) c.top.result c.args.word = cc c.in-Some-Accept.ensures in
    record {
      ran = midway_accept c.args.word c.top.result _ (held c.args.tables.now) (plan_line_of c.args.self.now).line (plan_line_of c.loop-to.self).line c.top.ensures cell c.loop-to.invariant.0;
      kept = c.loop-to.invariant.1;
    }

pub returns-in_err-reduce-in-Some-Reduce : goal.returns-in_err-reduce-in-Some-Reduce
returns-in_err-reduce-in-Some-Reduce c =
    let t = c.args.tables.now in
    let r = c.in-Some-Reduce.rule in
    let cell : Some (Reduce r) ≡ cell_of (held t) c.top.result c.args.word = cc c.in-Some-Reduce.ensures in
    let p = err_from_is_err_and c.from_residual.result c.from_residual.ensures.1 in
    let out = c.in_err-reduce-in-Some-Reduce.ensures in
    rw (p.1, p.2) record {
      ran = midway_refused c.args.word c.top.result r _ (held t) (plan_line_of c.args.self.now).line (plan_line_of c.loop-to.self).line (plan_line_of c.reduce.new.self).line c.in_err-reduce-in-Some-Reduce.field-0.0 (rule_in t c.top.result c.args.word r cell) c.top.ensures cell c.loop-to.invariant.0 out.reduced;
      kept = kept_on c.loop-to.invariant.1 out.kept;
    }

pub returns-in-None : goal.returns-in-None
returns-in-None c =
    let k = (plan_line_of c.loop-to.self).line in
    let cell : None ≡ cell_of (held c.args.tables.now) c.top.result c.args.word = cc c.in-None.ensures in
    record {
      ran = midway_none c.args.word c.top.result _ (held c.args.tables.now) (plan_line_of c.args.self.now).line k k c.top.ensures cell c.loop-to.invariant.0;
      kept = c.loop-to.invariant.1;
    }
