use Rattle.std.proofs.Common.{◌≡◌, ◌+◌, ◌*◌, sym, subst, arith}
use Rattle.tables.specs.Lookaheads.{LookaheadsUpto}
use Rattle.tables.proofs.Lookaheads.{upto_none, upto_all}
use Rattle.tables.proofs.lookahead.look_ahead.Goals as goal

pub loop-state-init : goal.loop-state-init
loop-state-init c = subst (λ l. LookaheadsUpto c.args.machine.now.rules c.args.machine.now.states 1 l) (sym c.requires.none) (upto_none c.args.machine.now.rules c.args.machine.now.states)

pub returns : goal.returns
returns c =
    let R = c.args.machine.now.rules in
    let S = c.args.machine.now.states in
    upto_all R S c.loop-state.sets (subst (λ n. LookaheadsUpto R S (97 * n + 1) c.loop-state.sets) (let e : c.loop-state.state ≡ S.count = omega (arith, c.loop-state-test.false, c.loop-state.auto.state-end) in e) c.loop-state.invariant)
