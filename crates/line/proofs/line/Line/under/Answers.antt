use Rattle.std.proofs.Common.{◌≡◌, ◌-◌, ◌<◌, ◌≤◌, length, arith}
use Rattle.line.proofs.StackArrays.{stack_under}
use Rattle.line.proofs.line.Line.under.Goals as goal

pub returns-clause-under : goal.returns-clause-under
returns-clause-under c =
    let m = c.args.self.now in
    let k = c.args.length in
    let h : k < m.depth = omega (arith, c.in_ok-place.ensures) in
    let l : m.depth ≤ length m.states = omega arith in
    let e : c.in_ok-place.place ≡ m.depth - k - 1 = omega (arith, c.in_ok-place.ensures) in
    rw e (stack_under m.states m.depth k h l)
