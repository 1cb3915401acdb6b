use Rattle.std.proofs.Common.{◌≡◌, subst}
use Rattle.grammar.specs.Grammar.{left_side}
use Rattle.tables.specs.Arrays.{grammar_of}
use Rattle.tables.specs.Building.{held_by}
use Rattle.tables.specs.HeldReadings.{left_of}
use Rattle.tables.proofs.RuleArrays.{left_is, is_rule_lem}
use Rattle.tables.proofs.tables.Tables.left.Goals as goal

pub returns : goal.returns
returns c =
    let R = c.in_ok-rules.field-0.now.machine.rules in
    let r = c.args.rule in
    subst (λ f. c.of_rule.result ≡ left_of (held_by f) r) c.in_ok-rules.ensures.value (c.of_rule.ensures (left_side (grammar_of R) r) (λ low high. left_is R r (is_rule_lem R r low high)))
