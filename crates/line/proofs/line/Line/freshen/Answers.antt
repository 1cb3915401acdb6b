use Rattle.std.proofs.Common.{sym, ap, ◌∙◌}
use Rattle.line.specs.Steps.{done}
use Rattle.line.specs.PlanLines.{is_judged, plan_line_of, fresh_plan_line}
use Rattle.line.proofs.Asked.{asked}
use Rattle.line.proofs.line.Line.freshen.Goals as goal

pub returns-clause-turned : goal.returns-clause-turned
returns-clause-turned c =
    asked (plan_line_of c.args.self.now) (done tt fresh_plan_line) (is_judged c.args.status) c.in_ok-expect.ensures
    ∙ ap (done tt) (sym c.fresh.ensures.fresh)
