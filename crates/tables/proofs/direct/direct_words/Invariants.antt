use Rattle.tables.specs.Transitions.{DirectIn}
use Rattle.tables.specs.WordSets.{WordsBelow}
use Rattle.tables.proofs.direct.direct_words.Given as goal

abbrev pub invariant-loop-word : goal.invariant-loop-word
invariant-loop-word l = WordsBelow (DirectIn l.machine.rules l.machine.states l.state) l.word l.words
