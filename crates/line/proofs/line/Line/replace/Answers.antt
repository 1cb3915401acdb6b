use Rattle.std.proofs.Common.{◌-◌, ◌<◌, ◌≤◌, length, refl, ap, ◌∙◌, arith}
use Rattle.std.proofs.lemmas.List.{take_more_set}
use Rattle.line.specs.PlanLines.{plan_line_of}
use Rattle.line.specs.Stacks.{replaced}
use Rattle.line.proofs.StackArrays.{stack_replace, same_line}
use Rattle.line.proofs.line.Line.replace.Goals as goal

pub returns : goal.returns
returns c =
    let m = c.args.self.now in
    let k = c.from.result in
    let h : k ≤ m.depth = omega arith in
    let l : m.depth ≤ length m.states = omega arith in
    let i : m.depth - k < length m.states = omega arith in
    let j : m.steps < length m.rules = omega arith in
    record {
      replaced =
          same_line (plan_line_of m).judged (stack_replace m.states m.depth k c.args.to h l i) refl (take_more_set m.rules m.steps c.args.rule j)
          ∙ ap (λ n. replaced (plan_line_of m) n c.args.to c.args.rule) c.from.ensures;
      kept = record { status = refl; count = refl; steps = omega arith };
    }
