use Rattle.std.proofs.Common.{ap, ◌∙◌, arith}
use Rattle.std.specs.List.{slice_get}
use Rattle.bounded.specs.BoundedList.{listed}
use Rattle.sheet.proofs.Supplemented.{own_told}
use Rattle.sheet.proofs.supplement.Supplement.own_rule.Goals as goal

pub returns : goal.returns
returns g c =
    let first = c.in_ok-behind.ensures in
    let second = c.in_ok-checked_sub.ensures in
    own_told (g.S.RuleSheet.meaning c.args.self.now.sheet) (listed c.args.self.now.own) c.args.rule c.in_ok-checked_sub.field-0 c.get.result (omega (arith, first.0, first.1, second.0, second.1, c.rules.ensures)) (omega arith) (c.get.ensures ∙ ap (slice_get (listed c.args.self.now.own)) c.from.ensures)
