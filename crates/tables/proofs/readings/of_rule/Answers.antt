use Rattle.std.proofs.Common.{◌≤◌, Some, ap, ◌∙◌, inl, inr, arith}
use Rattle.tables.proofs.RuleReadings.{at_rule, at_none}
use Rattle.tables.proofs.readings.of_rule.Goals as goal
use Rattle.tables.proofs.readings.of_rule.Goals.{then-rule-eq0-via-then-rule-eq0, then-rule-eq0-via-else-rule-eq0+then-rule-from}

pub returns-then-rule-eq0 : goal.returns-then-rule-eq0
returns-then-rule-eq0 c = λ x same.
    elim c.then-rule-eq0.branch [
      | then-rule-eq0-via-then-rule-eq0 w ↦ at_none c.args.rules.now c.args.rule x (inl (omega (arith, w.if-rule-eq0.true)))
      | then-rule-eq0-via-else-rule-eq0+then-rule-from w ↦ at_none c.args.rules.now c.args.rule x (inr (omega (arith, w.if-rule-from.true, w.from.ensures)))
    ]

pub returns : goal.returns
returns c = λ x same.
    let low : 1 ≤ c.args.rule = omega (arith, c.if-rule-eq0.false) in
    let high : c.args.rule ≤ c.args.rules.now.count = omega (arith, c.if-rule-from.false, c.from.ensures) in
    ap Some (same low high) ∙ at_rule c.args.rules.now c.args.rule x low high
