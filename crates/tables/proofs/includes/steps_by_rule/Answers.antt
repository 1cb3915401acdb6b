use Rattle.std.proofs.Common.{◌≡◌, ◌+◌, ◌<◌, length, get_or, take, Some, None, sym, ap, ◌∙◌, subst, arith}
use Rattle.bounded.specs.BoundedList.{listed}
use Rattle.grammar.specs.Grammar.{right_side}
use Rattle.grammar.specs.Lookahead.{Leads, here}
use Rattle.tables.specs.Arrays.{grammar_of, automaton}
use Rattle.tables.specs.IncludeSteps.{StepsUpto, order}
use Rattle.tables.specs.Transitions.{place_of}
use Rattle.tables.proofs.RuleArrays.{is_rule_lem, right_is, right_length}
use Rattle.tables.proofs.StepLists.{on_ok}
use Rattle.tables.proofs.Transitions.{within, transition}
use Rattle.tables.proofs.IncludeSteps.{push}
use Rattle.tables.proofs.RuleSteps.{ended, stopped, passed, found}
use Rattle.tables.proofs.RuleWalks.{walk_on}
use Rattle.tables.proofs.includes.steps_by_rule.Goals as goal
use Rattle.tables.proofs.includes.steps_by_rule.Goals.{then-end-dot+then-machine-code+else-prove, else-end-dot, else-end-dot-via-then-end-dot+else-machine-code, else-end-dot-via-else-end-dot}

pub loop-dot-init : goal.loop-dot-init
loop-dot-init c = (here, c.requires.upto)

pub returns-in_default : goal.returns-in_default
returns-in_default c =
    let m = c.args.machine.now in
    let same = c.codes-code-items.ensures.codes ∙ sym (right_is m.rules c.args.rule (is_rule_lem m.rules c.args.rule c.requires.rule.0 c.requires.rule.1)) in
    let codes = right_side (grammar_of m.rules) c.args.rule in
    let d = c.loop-dot.dot in
    let nowhere : None ≡ (automaton m.rules m.states).goto c.loop-dot.from (get_or codes d 0) = c.in_default.ensures ∙ ap ((automaton m.rules m.states).goto c.loop-dot.from) (c.from.ensures ∙ ap (λ l. get_or l d 0) same) in
    stopped m.rules m.states c.args.state c.args.rule c.requires.rule.0 c.requires.rule.1 d c.loop-dot.from (listed c.loop-dot.steps) (omega (arith, ap length same, c.loop-dot-test.true)) c.loop-dot.invariant.0 nowhere c.loop-dot.invariant.1

pub place-source-requires : goal.place-source-requires
place-source-requires c =
    let m = c.args.machine.now in
    transition m.rules m.states c.loop-dot.from (get_or c.codes-code-items.result.now c.loop-dot.dot 0) c.in-Some.next c.if-machine-code.true (c.in-Some.ensures ∙ ap ((automaton m.rules m.states).goto c.loop-dot.from) c.from.ensures)

pub loop-dot-preserved : goal.loop-dot-preserved
loop-dot-preserved c =
    let m = c.args.machine.now in
    let same = c.codes-code-items.ensures.codes ∙ sym (right_is m.rules c.args.rule (is_rule_lem m.rules c.args.rule c.requires.rule.0 c.requires.rule.1)) in
    let R = m.rules in
    let S = m.states in
    let q = c.args.state in
    let r = c.args.rule in
    let d = c.loop-dot.dot in
    let p = c.loop-dot.from in
    let codes = right_side (grammar_of R) r in
    let inside : d < length codes = omega (arith, ap length same, c.loop-dot-test.true) in
    let code : get_or c.codes-code-items.result.now d 0 ≡ get_or codes d 0 = ap (λ l. get_or l d 0) same in
    let onward : Some c.in-Some.next ≡ (automaton R S).goto p (get_or codes d 0) = c.in-Some.ensures ∙ ap ((automaton R S).goto p) (c.from.ensures ∙ code) in
    let room : length (listed c.loop-dot.steps) < 73728 = omega (arith, c.loop-dot.invariant.1.room, (within R S (q, get_or R.left r 0) c.requires.to).state, S.few, c.requires.rule.1, R.count96, inside, right_length R r c.requires.rule.1, R.short r) in
    elim c.if-end-dot.branch [
      | then-end-dot+then-machine-code+else-prove w ↦ (
        subst (λ s. Leads (automaton R S) q (take (d + 1) codes) s) (sym w.from-is) (walk_on R S q codes d p c.in-Some.next inside c.loop-dot.invariant.0 onward),
        subst (λ s. StepsUpto R S (order q r (d + 1)) (listed s)) (sym w.steps-is)
            (push R S q r d (p, get_or codes d 0) (q, get_or R.left r 0) (found R S q r c.requires.rule.0 c.requires.rule.1 c.nullable_from-end.result c.nullable_from-end.ensures d p c.in-Some.next c.requires.to inside c.loop-dot.invariant.0 onward w.if-end-dot.true (omega (arith, w.if-machine-code.true, code)))
            (listed c.loop-dot.steps) (listed w.push-pushed.new.self) _
            (on_ok w.push-pushed.result (w.push-pushed.ensures.room.1 room) w.push-pushed.ensures.pushed)
            (w.place-source.ensures.is ∙ ap (place_of R p) code) c.place-target.ensures.is c.loop-dot.invariant.1),
      )
      | else-end-dot w ↦ (
        subst (λ s. Leads (automaton R S) q (take (d + 1) codes) s) (sym w.from-is) (walk_on R S q codes d p c.in-Some.next inside c.loop-dot.invariant.0 onward),
        subst (λ s. StepsUpto R S (order q r (d + 1)) (listed s)) (sym w.steps-is)
            (passed R S q r c.requires.rule.0 c.requires.rule.1 c.nullable_from-end.result c.nullable_from-end.ensures d (listed c.loop-dot.steps) inside (λ h k.
            elim w.else-end-dot.branch [
              | else-end-dot-via-then-end-dot+else-machine-code v ↦ omega (arith, v.if-machine-code.false, code)
              | else-end-dot-via-else-end-dot v ↦ omega (arith, v.if-end-dot.false)
            ]) c.loop-dot.invariant.1),
      )
    ]

pub returns : goal.returns
returns c =
    let m = c.args.machine.now in
    let same = c.codes-code-items.ensures.codes ∙ sym (right_is m.rules c.args.rule (is_rule_lem m.rules c.args.rule c.requires.rule.0 c.requires.rule.1)) in
    let long = ap length same in
    ended m.rules m.states c.args.state c.args.rule c.requires.rule.0 c.requires.rule.1 c.loop-dot.dot (listed c.loop-dot.steps) (omega (arith, long, c.loop-dot-test.false)) (omega (arith, long, c.loop-dot.auto.dot-end)) c.loop-dot.invariant.1
