-- Turns of the machine one after another, on a fresh line, by written-out tables.
use Rattle.std.specs.Prelude.{ℕ, List, [], ◌∷◌}
use Rattle.grammar.specs.Grammar.{Grammar}
use Rattle.grammar.specs.Line.{fresh_line, Turned, after, refused, take_word, judge_line}
use Rattle.examples.specs.Tables.{Tables, automaton, cells}

module _ (G : Grammar) (t : Tables) where
  -- A word after earlier turns; a refusal is kept.
  abbrev pub and_word : Turned → ℕ → Turned
  and_word (after l) w = take_word G (automaton t) (cells t) l w
  and_word (refused e) w = refused e

  -- Words after earlier turns.
  abbrev pub and_words : Turned → List ℕ → Turned
  and_words x [] = x
  and_words x (w ∷ ws) = and_words (and_word x w) ws

  -- The line judged after earlier turns.
  abbrev pub and_judged : Turned → Turned
  and_judged (after l) = judge_line G (automaton t) (cells t) l
  and_judged (refused e) = refused e

  -- The words brought one by one.
  abbrev pub words : List ℕ → Turned
  words ws = and_words (after fresh_line) ws

  -- The same, and then the line is judged.
  abbrev pub judged : List ℕ → Turned
  judged ws = and_judged (words ws)
