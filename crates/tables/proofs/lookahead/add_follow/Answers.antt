use Rattle.std.proofs.Common.{◌≡◌, [], get_or, ap, ◌∙◌, subst, arith}
use Rattle.gather.specs.Members.{no_members, unite}
use Rattle.tables.specs.Arrays.{automaton}
use Rattle.tables.proofs.Answered.{told_some, told_none}
use Rattle.tables.proofs.Lookaheads.{add, end_below, no_move, no_walk}
use Rattle.tables.proofs.Transitions.{transition}
use Rattle.tables.proofs.lookahead.add_follow.Goals as goal

pub place-requires : goal.place-requires
place-requires c =
    let m = c.args.machine.now in
    let goes = (automaton m.rules m.states).goto c.args.state in
    let X = get_or m.rules.left c.args.rule 0 in
    let t = told_some c.goto.result (goes X) (c.goto.ensures ∙ ap goes c.from.ensures) c.if-is_some.ensures in
    transition m.rules m.states c.args.state X t.0 (m.rules.lefts c.args.rule c.requires.rule.0 c.requires.rule.1) t.1

pub offset_bounds-sets-end : goal.offset_bounds-sets-end
offset_bounds-sets-end c = let m = c.args.machine.now in omega (arith, end_below m.rules m.states c.args.state c.args.rule c.in-Some.end c.from.result c.goto.result c.goto.ensures c.if-is_some.ensures c.in-Some.ensures)

pub bounds-sets-end : goal.bounds-sets-end
bounds-sets-end c = let m = c.args.machine.now in end_below m.rules m.states c.args.state c.args.rule c.in-Some.end c.from.result c.goto.result c.goto.ensures c.if-is_some.ensures c.in-Some.ensures

pub offset_bounds-sets-end-in-Some : goal.offset_bounds-sets-end-in-Some
offset_bounds-sets-end-in-Some c = let m = c.args.machine.now in omega (arith, end_below m.rules m.states c.args.state c.args.rule c.in-Some.end c.from.result c.goto.result c.goto.ensures c.if-is_some.ensures c.in-Some.ensures)

pub bounds-sets-end-in-Some : goal.bounds-sets-end-in-Some
bounds-sets-end-in-Some c = let m = c.args.machine.now in end_below m.rules m.states c.args.state c.args.rule c.in-Some.end c.from.result c.goto.result c.goto.ensures c.if-is_some.ensures c.in-Some.ensures

pub returns-in-Some : goal.returns-in-Some
returns-in-Some c =
    let m = c.args.machine.now in
    let q = c.args.state in
    let r = c.args.rule in
    let s = c.in-Some.end in
    let goes = (automaton m.rules m.states).goto q in
    let X = get_or m.rules.left r 0 in
    let t = told_some c.goto.result (goes X) (c.goto.ensures ∙ ap goes c.from.ensures) c.if-is_some.ensures in
    let to = transition m.rules m.states q X t.0 (m.rules.lefts r c.requires.rule.0 c.requires.rule.1) t.1 in
    let below = end_below m.rules m.states q r s c.from.result c.goto.result c.goto.ensures c.if-is_some.ensures c.in-Some.ensures in
    add m.rules m.states q r c.requires.rule.0 c.requires.rule.1 c.args.sets.now c.requires.upto
    c.args.follow.now c.requires.follow to s c.in-Some.ensures below c.join.result
    (subst (λ i. c.join.result
    ≡ unite (get_or (get_or c.args.sets.now s []) r no_members)
    (get_or c.args.follow.now i no_members))
    (c.from-in-Some.ensures ∙ c.place.ensures.is) c.join.ensures)

pub returns-in_default : goal.returns-in_default
returns-in_default c =
    let m = c.args.machine.now in
    no_walk m.rules m.states c.args.state c.args.rule c.requires.rule.0 c.requires.rule.1 c.args.sets.now c.requires.upto c.in_default.ensures

pub returns-else-is_some : goal.returns-else-is_some
returns-else-is_some c =
    let m = c.args.machine.now in
    let goes = (automaton m.rules m.states).goto c.args.state in
    no_move m.rules m.states c.args.state c.args.rule c.requires.rule.0 c.requires.rule.1 c.args.sets.now c.requires.upto (told_none c.goto.result (goes (get_or m.rules.left c.args.rule 0)) (c.goto.ensures ∙ ap goes c.from.ensures) c.if-is_some.ensures)
