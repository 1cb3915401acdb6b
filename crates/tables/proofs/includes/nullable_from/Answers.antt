use Rattle.std.proofs.Common.{ℕ, ◌+◌, ◌≡◌, refl, rules, tests, sym, subst, ◌∙◌, Option, Some, None}
use Rattle.tables.specs.Arrays.{grammar_of}
use Rattle.tables.specs.IncludeSteps.{NullableFrom}
use Rattle.tables.proofs.NullableEnds.{from_all, from_last}
use Rattle.tables.proofs.RuleArrays.{is_rule_lem, right_is}
use Rattle.tables.proofs.includes.nullable_from.Goals as goal

pub returns : goal.returns
returns c =
    by c.rposition.result refl
  where
    by : (o : Option ℕ) → c.rposition.result ≡ o → NullableFrom (grammar_of c.args.rules.now) c.args.rule c.map_or.result
    by None e =
        let m : c.map_or.result ≡ 0 = search rules in
        let R = c.args.rules.now in
        let r = c.args.rule in
        let same = c.codes.ensures.codes ∙ sym (right_is R r (is_rule_lem R r c.requires.rule.0 c.requires.rule.1)) in
        subst (λ n. NullableFrom (grammar_of R) r n) (sym m) (from_all R c.args.null.now c.requires.marks r c.codes.result.now same (search (rules, tests)))
    by (Some i) e =
        let m : c.map_or.result ≡ i + 1 = search rules in
        let R = c.args.rules.now in
        let r = c.args.rule in
        let same = c.codes.ensures.codes ∙ sym (right_is R r (is_rule_lem R r c.requires.rule.0 c.requires.rule.1)) in
        subst (λ n. NullableFrom (grammar_of R) r n) (sym m) (from_last R c.args.null.now c.requires.marks r c.codes.result.now same i (search rules) (search (rules, tests)) (search (rules, tests)))
