use Rattle.std.proofs.Common.{◌≡◌, length, get_or, Some, None, sym, ◌∙◌, ap, subst, arith}
use Rattle.grammar.specs.Grammar.{right_side}
use Rattle.grammar.specs.Lookahead.{here}
use Rattle.tables.specs.Arrays.{grammar_of, automaton}
use Rattle.tables.specs.Lookaheads.{WalkTold}
use Rattle.tables.proofs.RuleArrays.{is_rule_lem, right_is}
use Rattle.tables.proofs.RuleWalks.{walk_on, stops, walked}
use Rattle.tables.proofs.machine.Machine.walk.Goals as goal

pub loop-code-init : goal.loop-code-init
loop-code-init c = here

pub returns-in_err-at : goal.returns-in_err-at
returns-in_err-at c =
    let m = c.args.self.now in
    let same = c.codes-code-items.ensures.codes ∙ sym (right_is m.rules c.args.rule (is_rule_lem m.rules c.args.rule c.requires.0 c.requires.1)) in
    let codes = right_side (grammar_of m.rules) c.args.rule in
    let d = c.loop-code.code-index in
    let p = c.loop-code.at in
    let nowhere : None ≡ (automaton m.rules m.states).goto p (get_or codes d 0) = c.in_err-at.ensures ∙ ap ((automaton m.rules m.states).goto p) (c.from.ensures ∙ ap (λ l. get_or l d 0) same) in
    subst (λ o. WalkTold m.rules m.states c.args.state c.args.rule o) (sym c.from_residual.ensures)
    (λ s w. stops m.rules m.states c.args.state codes d p s (omega (arith, ap length same, c.loop-code-test.true)) c.loop-code.invariant nowhere w)

pub loop-code-preserved : goal.loop-code-preserved
loop-code-preserved c =
    let m = c.args.self.now in
    let same = c.codes-code-items.ensures.codes ∙ sym (right_is m.rules c.args.rule (is_rule_lem m.rules c.args.rule c.requires.0 c.requires.1)) in
    let codes = right_side (grammar_of m.rules) c.args.rule in
    let d = c.loop-code.code-index in
    let p = c.loop-code.at in
    let onward : Some c.in_ok-at.at ≡ (automaton m.rules m.states).goto p (get_or codes d 0) = c.in_ok-at.ensures ∙ ap ((automaton m.rules m.states).goto p) (c.from.ensures ∙ ap (λ l. get_or l d 0) same) in
    walk_on m.rules m.states c.args.state codes d p c.in_ok-at.at (omega (arith, ap length same, c.loop-code-test.true)) c.loop-code.invariant onward

pub returns : goal.returns
returns c =
    let m = c.args.self.now in
    let same = c.codes-code-items.ensures.codes ∙ sym (right_is m.rules c.args.rule (is_rule_lem m.rules c.args.rule c.requires.0 c.requires.1)) in
    walked m.rules m.states c.args.state (right_side (grammar_of m.rules) c.args.rule) c.loop-code.code-index c.loop-code.at (omega (arith, ap length same, c.loop-code-test.false)) c.loop-code.invariant
