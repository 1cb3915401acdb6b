use Rattle.std.proofs.Common.{◌≡◌, ◌+◌, ◌*◌, ℕ, List, Some, sym, ap, ◌∙◌, arith}
use Rattle.std.specs.Option.{option_map}
use Rattle.tables.specs.ReadSteps.{chosen}
use Rattle.tables.proofs.ReadSteps.{few, found_at, found_within, next_found}
use Rattle.tables.proofs.Transitions.{behind_place}
use Rattle.tables.proofs.reads.ReadsRelation.next.Goals as goal

pub listed : goal.listed
listed c =
    let m = c.args.self.now.machine.now in
    found_within m.rules m.states c.args.self.now.null.now m.states.count c.args.self.now.found.now c.args.self.now.all c.in_ok-state.state
    (behind_place m.rules m.states c.args.place c.in_ok-state.state c.in_ok-state.ensures)

pub offset_bounds-self-state : goal.offset_bounds-self-state
offset_bounds-self-state c =
    let m = c.args.self.now.machine.now in
    omega (arith, behind_place m.rules m.states c.args.place c.in_ok-state.state c.in_ok-state.ensures, m.states.few)

pub bounds-self-state : goal.bounds-self-state
bounds-self-state c =
    let m = c.args.self.now.machine.now in
    omega (arith, behind_place m.rules m.states c.args.place c.in_ok-state.state c.in_ok-state.ensures, m.states.few)

pub returns-in_err-number-clause-told : goal.returns-in_err-number-clause-told
returns-in_err-number-clause-told c =
    let s = c.args.self.now in
    let m = s.machine.now in
    let below = behind_place m.rules m.states c.args.place c.in_ok-state.state c.in_ok-state.ensures in
    let all = found_at m.rules m.states s.null.now m.states.count s.found.now s.all c.in_ok-state.state c.index-self-state.result below c.index-self-state.is in
    c.from_residual-in_err-number.ensures ∙ ap (option_map (λ k. 24 * c.in_ok-state.state + k)) (sym c.in_err-number.was)
    ∙ next_found m.rules m.states s.null.now c.args.place c.in_ok-state.state c.args.k _ c.get.result c.in_ok-state.ensures all c.get.ensures

pub returns-in_err-number-clause-short : goal.returns-in_err-number-clause-short
returns-in_err-number-clause-short c =
    let m = c.args.self.now.machine.now in
    few m.rules m.states c.args.self.now.null.now c.args.place

pub overflow_mul-result : goal.overflow_mul-result
overflow_mul-result c =
    let m = c.args.self.now.machine.now in
    omega (arith, behind_place m.rules m.states c.args.place c.in_ok-state.state c.in_ok-state.ensures, m.states.few)

pub overflow_add-result : goal.overflow_add-result
overflow_add-result c =
    let m = c.args.self.now.machine.now in
    omega (arith, behind_place m.rules m.states c.args.place c.in_ok-state.state c.in_ok-state.ensures, m.states.few, c.from.ensures)

pub returns-clause-told : goal.returns-clause-told
returns-clause-told c =
    let s = c.args.self.now in
    let m = s.machine.now in
    let below = behind_place m.rules m.states c.args.place c.in_ok-state.state c.in_ok-state.ensures in
    let all = found_at m.rules m.states s.null.now m.states.count s.found.now s.all c.in_ok-state.state c.index-self-state.result below c.index-self-state.is in
    ap (λ k. Some (24 * c.in_ok-state.state + k)) c.from.ensures ∙ ap (option_map (λ k. 24 * c.in_ok-state.state + k)) (sym c.in_ok-number.was)
    ∙ next_found m.rules m.states s.null.now c.args.place c.in_ok-state.state c.args.k _ c.get.result c.in_ok-state.ensures all c.get.ensures

pub returns-clause-short : goal.returns-clause-short
returns-clause-short c =
    let m = c.args.self.now.machine.now in
    few m.rules m.states c.args.self.now.null.now c.args.place
