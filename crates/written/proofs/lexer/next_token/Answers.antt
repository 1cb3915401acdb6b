use Rattle.std.proofs.Common.{◌≡◌, ℕ, ◌+◌, ◌-◌, true, false, List, ◌∷◌, take, drop, sym, ap, ◌∙◌, get_or, arith, rules}
use Rattle.written.specs.Lexing.{not_quote}
use Rattle.written.specs.Tokens.{Placed, blank, letter, word}
use Rattle.written.proofs.Laying.{ended}
use Rattle.written.proofs.FirstToken.{at_colon, at_bar, at_semicolon, at_name, at_word, at_other, Other}
use Rattle.written.proofs.lexer.next_token.Goals as goal

abbrev word_at : ℕ → List ℕ → Placed
word_at place bytes = record { place = place; token = word bytes }

pub returns-then-at-text-clause-starts : goal.returns-then-at-text-clause-starts
returns-then-at-text-clause-starts c = λ ts l. ended c.args.text.now c.args.from c.past-at.result (c.past-at.ensures.value blank (λ b r q. search rules)) ts l c.if-at-text.true

pub returns-then-end-text-clause-starts : goal.returns-then-end-text-clause-starts
returns-then-end-text-clause-starts c = λ ts l. absurd (omega (arith, (at_word c.args.text.now c.args.from c.past-at.result (c.past-at.ensures.value blank (λ b r q. search rules)) ts l c.if-at-text.false c.past-end.result (c.past-end.ensures.value not_quote (λ b r q. search rules)) (sym c.from.ensures ∙ c.in-34.is)).0))

pub returns-in-58-clause-starts : goal.returns-in-58-clause-starts
returns-in-58-clause-starts c = λ ts l. let B = at_colon c.args.text.now c.args.from c.past-at.result (c.past-at.ensures.value blank (λ b r q. search rules)) ts l c.if-at-text.false (sym c.from.ensures ∙ c.in-58.is) in (B.others, B.is, B.laid)

pub returns-in-124-clause-starts : goal.returns-in-124-clause-starts
returns-in-124-clause-starts c = λ ts l. let B = at_bar c.args.text.now c.args.from c.past-at.result (c.past-at.ensures.value blank (λ b r q. search rules)) ts l c.if-at-text.false (sym c.from.ensures ∙ c.in-124.is) in (B.others, B.is, B.laid)

pub returns-in-59-clause-starts : goal.returns-in-59-clause-starts
returns-in-59-clause-starts c = λ ts l. let B = at_semicolon c.args.text.now c.args.from c.past-at.result (c.past-at.ensures.value blank (λ b r q. search rules)) ts l c.if-at-text.false (sym c.from.ensures ∙ c.in-59.is) in (B.others, B.is, B.laid)

pub returns-else-end-text-clause-starts : goal.returns-else-end-text-clause-starts
returns-else-end-text-clause-starts c =
    let at = c.past-at.result in
    let bytes = take (c.past-end.result - (at + 1)) (drop (at + 1) c.args.text.now) in
    let quote : at ≡ at + 1 - 1 = omega arith in
    λ ts l.
    let W = at_word c.args.text.now c.args.from at (c.past-at.ensures.value blank (λ b r q. search rules)) ts l c.if-at-text.false c.past-end.result (c.past-end.ensures.value not_quote (λ b r q. search rules)) (sym c.from.ensures ∙ c.in-34.is) in
    (W.1, W.2 ∙ ap (λ place. word_at place bytes ∷ W.1) quote, W.3)

pub returns-in-a-to-z-clause-starts : goal.returns-in-a-to-z-clause-starts
returns-in-a-to-z-clause-starts c =
    let b = get_or c.args.text.now c.past-at.result 0 in
    let a_letter : letter b ≡ true = search rules in
    λ ts l. at_name c.args.text.now c.args.from c.past-at.result (c.past-at.ensures.value blank (λ b r q. search rules)) ts l c.if-at-text.false c.past-end-in-a-to-z.result (c.past-end-in-a-to-z.ensures.value letter (λ b r q. search rules)) a_letter

pub returns-in_default-clause-starts : goal.returns-in_default-clause-starts
returns-in_default-clause-starts c =
    let b = get_or c.args.text.now c.past-at.result 0 in
    let none : letter b ≡ false = search rules in
    let other : Other b = record { not_58 = λ e. omega arith; not_124 = λ e. omega arith; not_59 = λ e. omega arith; not_34 = λ e. omega arith; no_letter = none } in
    λ ts l. absurd (at_other c.args.text.now c.args.from c.past-at.result (c.past-at.ensures.value blank (λ b r q. search rules)) ts l c.if-at-text.false other)
