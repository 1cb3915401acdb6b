use Rattle.std.proofs.Common.{◌+◌, get_or, sym, ap, ◌∙◌, subst, arith}
use Rattle.bounded.specs.BoundedList.{listed}
use Rattle.tables.specs.Arrays.{automaton}
use Rattle.tables.specs.IncludeSteps.{StepsUpto, order}
use Rattle.tables.proofs.Answered.{told_some, told_none}
use Rattle.tables.proofs.RuleSteps.{no_left, last_rule}
use Rattle.tables.proofs.Transitions.{transition}
use Rattle.tables.proofs.includes.steps_by_state.Goals as goal
use Rattle.tables.proofs.includes.steps_by_state.Goals.{then-is_some, else-is_some}

pub steps_by_rule-requires : goal.steps_by_rule-requires
steps_by_rule-requires c =
    let m = c.args.machine.now in
    let q = c.args.state in
    let r = c.loop-rule.rule in
    let X = get_or m.rules.left r 0 in
    let t = told_some c.goto.result ((automaton m.rules m.states).goto q X) (c.goto.ensures ∙ ap ((automaton m.rules m.states).goto q) c.from.ensures) c.if-is_some.ensures in
    record {
      rule = (c.loop-rule.auto.rule, omega (arith, c.loop-rule-test.true, c.from-rule-end.ensures));
      marks = c.requires.marks;
      to = transition m.rules m.states q X t.0 (m.rules.lefts r c.loop-rule.auto.rule (omega (arith, c.loop-rule-test.true, c.from-rule-end.ensures))) t.1;
      upto = c.loop-rule.invariant;
    }

pub loop-rule-preserved : goal.loop-rule-preserved
loop-rule-preserved c =
    let m = c.args.machine.now in
    let q = c.args.state in
    let r = c.loop-rule.rule in
    elim c.if-is_some.branch [
      | then-is_some w ↦ subst (λ s. StepsUpto m.rules m.states (order q (r + 1) 0) (listed s)) (sym w.steps-is) w.steps_by_rule.ensures
      | else-is_some w ↦
          subst (λ s. StepsUpto m.rules m.states (order q (r + 1) 0) (listed s)) (sym w.steps-is)
          (no_left m.rules m.states q r c.loop-rule.auto.rule (omega (arith, c.loop-rule-test.true, c.from-rule-end.ensures)) (listed c.loop-rule.steps) (told_none c.goto.result ((automaton m.rules m.states).goto q (get_or m.rules.left r 0)) (c.goto.ensures ∙ ap ((automaton m.rules m.states).goto q) c.from.ensures) w.if-is_some.ensures) c.loop-rule.invariant)
    ]

pub returns : goal.returns
returns c =
    let m = c.args.machine.now in
    last_rule m.rules m.states c.args.state c.loop-rule.rule (listed c.loop-rule.steps) (omega (arith, c.loop-rule-test.false, c.from-rule-end.ensures)) (omega (arith, c.loop-rule.auto.rule-end (omega arith), c.from-rule-end.ensures)) c.loop-rule.invariant
