-- The account of a list of turns, kept from their arguments and answers alone.
use Rattle.std.specs.Prelude.{ℕ, Bool, true, false, List, [], ◌∷◌, ◌++◌, replicate, slice_index_or}
use Rattle.std.specs.Prelude.{slice_set}
use Rattle.line.specs.Answers.{given, refused}
use Rattle.plan.specs.Turns.{Turn, word, judge, book, withdraw, clear}

-- A line is open or judged, and has its words.
pub record AccountLine : Type 0 where
  pub judged : Bool
  pub words : List ℕ

-- A line that was booked.
pub record BookedLine : Type 0 where
  pub designer : ℕ
  pub words : List ℕ

-- The line of each designer from 0 to 7, and the booked lines, the oldest first.
pub record Account : Type 0 where
  pub lines : List AccountLine
  pub booked : List BookedLine

-- An open line without words.
abbrev pub empty_line : AccountLine
empty_line = record { judged = false; words = [] }

-- A designer's line.
abbrev pub line_of : Account → ℕ → AccountLine
line_of a d = slice_index_or a.lines d empty_line

-- The account with another line for a designer.
abbrev pub with_line : Account → ℕ → AccountLine → Account
with_line a d l = record { lines = slice_set a.lines d l; booked = a.booked }

-- The account after one turn more.
-- A word taken joins its line at the end, and does nothing else.
-- Judging that gives out a slip makes its line judged.
-- A booking done adds the line to the booked ones.
-- That line, and one withdrawn or cleared, is then open without words.
-- Refused turns change nothing.
abbrev pub after_turn : Account → Turn → Account
after_turn a (word d w (given n)) =
    with_line a d (record { judged = (line_of a d).judged; words = (line_of a d).words ++ w ∷ [] })
after_turn a (word d w (refused c)) = a
after_turn a (judge d (given s)) =
    with_line a d (record { judged = true; words = (line_of a d).words })
after_turn a (judge d (refused c)) = a
after_turn a (book s (given n)) =
    record {
      lines = slice_set a.lines s.designer empty_line;
      booked =
          a.booked ++ record { designer = s.designer; words = (line_of a s.designer).words } ∷ [];
    }
after_turn a (book s (refused c)) = a
after_turn a (withdraw s (given u)) = with_line a s.designer empty_line
after_turn a (withdraw s (refused c)) = a
after_turn a (clear d (given u)) = with_line a d empty_line
after_turn a (clear d (refused c)) = a

-- The account after more turns, the oldest first.
abbrev pub after_turns : Account → List Turn → Account
after_turns a [] = a
after_turns a (t ∷ ts) = after_turns (after_turn a t) ts

-- The account of the turns since the opening: before them there are eight open lines without words,
-- and none is booked.
abbrev pub account : List Turn → Account
account ts = after_turns (record { lines = replicate 8 empty_line; booked = [] }) ts
