use Rattle.std.proofs.Common.{◌+◌, ◌||◌, sym, ap, ◌∙◌, subst, arith}
use Rattle.gather.specs.Members.{has, no_members}
use Rattle.grammar.specs.Lookahead.{next_end}
use Rattle.tables.specs.Arrays.{automaton}
use Rattle.tables.specs.Transitions.{DirectIn}
use Rattle.tables.specs.WordSets.{WordsBelow}
use Rattle.tables.proofs.Answered.{told_some, told_none}
use Rattle.tables.proofs.WordSets.{words_one, words_none, words_more, words_skip, words_all}
use Rattle.tables.proofs.DirectWords.{no_direct_end, direct_word, no_direct_word, direct_below}
use Rattle.tables.proofs.direct.direct_words.Goals as goal
use Rattle.tables.proofs.direct.direct_words.Goals.{then-has_item, else-has_item, then-is_some, else-is_some}

pub loop-word-preserved : goal.loop-word-preserved
loop-word-preserved c =
    let R = c.args.machine.now.rules in
    let S = c.args.machine.now.states in
    let s = c.args.state in
    let w = c.loop-word.word in
    elim c.if-is_some.branch [
      | then-is_some v ↦
          (let t = told_some c.goto.result ((automaton R S).goto s w) c.goto.ensures v.if-is_some.ensures in
          subst (λ x. WordsBelow (DirectIn R S s) (w + 1) x) (sym v.words-is)
          (words_more (DirectIn R S s) w c.loop-word.words v.union-words.result (λ k. v.union-words.ensures.members k ∙ ap (λ b. has c.loop-word.words k || b) (v.one.ensures k)) (omega (arith, c.loop-word-test.true, R.terminals63)) (direct_word R S s w t.0 (omega (arith, c.loop-word.auto.word)) (omega (arith, c.loop-word-test.true)) t.1) c.loop-word.invariant))
      | else-is_some v ↦
          subst (λ x. WordsBelow (DirectIn R S s) (w + 1) x) (sym v.words-is)
          (words_skip (DirectIn R S s) w c.loop-word.words (no_direct_word R S s w (omega (arith, c.loop-word.auto.word)) (told_none c.goto.result ((automaton R S).goto s w) c.goto.ensures v.if-is_some.ensures)) c.loop-word.invariant)
    ]

pub returns : goal.returns
returns c =
    let R = c.args.machine.now.rules in
    let S = c.args.machine.now.states in
    words_all (DirectIn R S c.args.state) c.loop-word.word 64 c.loop-word.words (λ w d. omega (arith, direct_below R S c.args.state w d, c.loop-word-test.false)) c.loop-word.invariant

pub loop-word-init : goal.loop-word-init
loop-word-init c =
    let m = c.args.machine.now in
    let s = c.args.state in
    elim c.if-has_item.branch [
      | then-has_item v ↦ subst (λ x. WordsBelow (DirectIn m.rules m.states s) 1 x) (sym v.words-is) (words_one (DirectIn m.rules m.states s) v.one-words.result v.one-words.ensures (next_end (sym v.if-has_item.ensures)))
      | else-has_item v ↦
          subst (λ x. WordsBelow (DirectIn m.rules m.states s) 1 x) (sym v.words-is)
          (words_skip (DirectIn m.rules m.states s) 0 no_members
          (no_direct_end m.rules m.states s (sym v.if-has_item.ensures))
          (words_none (DirectIn m.rules m.states s)))
    ]
