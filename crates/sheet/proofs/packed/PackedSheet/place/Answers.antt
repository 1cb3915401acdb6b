use Rattle.std.proofs.Common.{◌≡◌, ◌+◌, get_or, subst, arith}
use Rattle.sheet.specs.Packing.{BodyAt}
use Rattle.sheet.proofs.Bodies.{body_at, no_rule_past}
use Rattle.sheet.proofs.packed.PackedSheet.place.Goals as goal

pub returns-then-before-self : goal.returns-then-before-self
returns-then-before-self c = no_rule_past c.args.self.now.numbers.now c.args.rule (λ _. let one = c.in_ok-before.ensures in omega (arith, one.0, one.1))

pub returns : goal.returns
returns c =
    let one = c.in_ok-before.ensures in
    let ns = c.args.self.now.numbers.now in
    let place : 2 + c.args.rule ≡ 3 + c.from.result = omega (arith, one.0, one.1, c.from.ensures) in
    rw c.from-2.ensures (subst (λ i. BodyAt ns c.args.rule (get_or ns i 0)) place (body_at ns c.args.self.now.lies c.args.rule (omega (arith, one.0)) (omega (arith, one.0, one.1))))
