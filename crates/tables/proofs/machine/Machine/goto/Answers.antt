use Rattle.std.proofs.Common.{ltb, ap, ◌∙◌, arith}
use Rattle.std.specs.Bool.{then_some}
use Rattle.tables.proofs.Gotos.{goto_past, goto_low, goto_high, goto_told}
use Rattle.tables.proofs.machine.Machine.goto.Goals as goal
use Rattle.tables.proofs.machine.Machine.goto.Goals.{then-state-self-via-then-state-self, then-state-self-via-else-state-self+then-code-eq0, then-state-self-via-else-state-self+else-code-eq0+then-code-codes}

pub returns-then-state-self : goal.returns-then-state-self
returns-then-state-self c =
    let R = c.args.self.now.rules in
    let S = c.args.self.now.states in
    elim c.then-state-self.branch [
      | then-state-self-via-then-state-self w ↦ goto_past R S c.args.state c.args.code w.if-state-self.true
      | then-state-self-via-else-state-self+then-code-eq0 w ↦ goto_low R S c.args.state c.args.code (omega (arith, w.if-code-eq0.true))
      | then-state-self-via-else-state-self+else-code-eq0+then-code-codes w ↦ goto_high R S c.args.state c.args.code (omega (arith, w.if-code-codes.true, c.from-codes.ensures))
    ]

pub returns : goal.returns
returns c =
    let m = c.args.self.now in
    c.then_some.ensures
    ∙ ap (λ t. then_some (ltb t m.states.count) t) c.from-target.ensures
    ∙ goto_told m.rules m.states c.args.state c.args.code c.if-state-self.false (omega (arith, c.if-code-eq0.false)) (omega (arith, c.if-code-codes.false, c.from-codes.ensures))
