use Rattle.std.proofs.Common.{◌≡◌, length, sym, subst}
use Rattle.grammar.specs.Grammar.{right_side}
use Rattle.tables.specs.Arrays.{grammar_of}
use Rattle.tables.specs.Building.{held_by}
use Rattle.tables.specs.HeldReadings.{length_of}
use Rattle.tables.proofs.RuleArrays.{right_length}
use Rattle.tables.proofs.tables.Tables.length.Goals as goal

pub returns : goal.returns
returns c =
    let R = c.in_ok-rules.field-0.now.machine.rules in
    let r = c.args.rule in
    subst (λ f. c.of_rule.result ≡ length_of (held_by f) r) c.in_ok-rules.ensures.value (c.of_rule.ensures (length (right_side (grammar_of R) r)) (λ low high. sym (right_length R r high)))
