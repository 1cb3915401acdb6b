-- Where a place of a text is, for people.
use Rattle.std.specs.Prelude.{ℕ, List, ◌+◌, ◌++◌, codes, count_by, decimal, length, reverse, take, take_while}
use Rattle.explain.specs.Bytes.{is_newline, is_within_line}
use Rattle.explain.specs.declared.position.Position.{Position}

-- One more than the newlines before the place.
abbrev pub line_of : List ℕ → ℕ → ℕ
line_of text place = count_by is_newline (take place text) + 1

-- One more than the bytes before the place that stand behind the last newline there.
abbrev pub column_of : List ℕ → ℕ → ℕ
column_of text place = length (take_while is_within_line (reverse (take place text))) + 1

abbrev pub position_of : List ℕ → ℕ → Position
position_of text place = record { line = line_of text place; column = column_of text place }

abbrev pub position_text : Position → List ℕ
position_text p = codes "line " ++ decimal p.line ++ codes ", column " ++ decimal p.column
