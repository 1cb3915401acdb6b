use Rattle.std.proofs.Common.{◌+◌, ◌≤◌, ◌≢◌, length, is_ok, refl, sym, subst, ap, ◌∙◌, arith}
use Rattle.std.proofs.lemmas.Bool.{true≢false}
use Rattle.std.proofs.lemmas.Result.{err_from_is_err_and}
use Rattle.std.proofs.lemmas.Bool.Decides.{not_from_Decides}
use Rattle.std.proofs.lemmas.List.{length-map}
use Rattle.bounded.specs.BoundedList.{listed}
use Rattle.bounded.proofs.Listed.{listed_fits}
use Rattle.sheet.specs.AddRefusals.{range_told}
use Rattle.sheet.specs.ShortRules.{rule_of}
use Rattle.sheet.specs.Supplements.{NotAdded, own_rules, supplemented}
use Rattle.sheet.specs.Supplements.NotAdded.{limits, range}
use Rattle.sheet.proofs.supplement.Supplement.add.Goals as goal
use Rattle.sheet.proofs.supplement.Supplement.add.Goals.{then-rules-ge96-via-then-rules-ge96, then-rules-ge96-via-else-rules-ge96+then-is_full}

pub returns-then-rules-ge96-clause-refused : goal.returns-then-rules-ge96-clause-refused
returns-then-rules-ge96-clause-refused g c =
    limits (λ within. elim c.then-rules-ge96.branch [
      | then-rules-ge96-via-then-rules-ge96 w ↦ omega (arith, within.0, c.rules-rules.ensures, w.if-rules-ge96.true)
      | then-rules-ge96-via-else-rules-ge96+then-is_full w ↦ omega (arith, within.1, w.if-is_full.ensures.0 refl, length-map (listed c.args.self.now.own) rule_of)
    ])

pub returns-in_err-rule-clause-refused : goal.returns-in_err-rule-clause-refused
returns-in_err-rule-clause-refused g c =
    let too_long : length c.args.codes.now ≤ 8 → ⊥ = λ few. true≢false (sym (c.with_codes.ensures.short.1 few) ∙ ap is_ok c.in_err-rule.was) in
    let p = err_from_is_err_and c.from_residual.result c.from_residual.ensures.1 in
    rw (p.1, p.2) (limits (λ within. too_long within.2))

pub returns-then-not-in_range-clause-refused : goal.returns-then-not-in_range-clause-refused
returns-then-not-in_range-clause-refused g c =
    let G = supplemented g.S.RuleSheet.meaning c.args.self.now in
    let own = listed c.args.self.now.own in
    let not_full : length own ≢ 16 = λ e. cc (c.if-is_full.ensures.1 e) in
    let room : length (own_rules c.args.self.now) + 1 ≤ 16 = omega (arith, not_full, listed_fits c.args.self.now.own, length-map own rule_of) in
    subst (λ n. NotAdded G (length (own_rules c.args.self.now)) c.args.left c.args.codes.now (range_told (n + 1))) (sym c.rules-rules.ensures)
    (range (omega arith, room, c.with_codes.ensures.short.0 (ap is_ok c.in_ok-rule.was)) (not_from_Decides c.in_range.result c.in_range.ensures c.if-not-in_range.true))
