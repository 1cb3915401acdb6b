-- Marks at the productive codes.
use Rattle.std.specs.Prelude.{Bool, List}
use Rattle.grammar.specs.Grammar.{Grammar}
use Rattle.grammar.specs.Trees.{Productive}
use Rattle.tables.specs.CodeMarks.{MarksOf}

-- The marked codes are exactly those that derive some list of words.
abbrev pub ProductiveMarks : Grammar → List Bool → Type 0
ProductiveMarks G marks = MarksOf (Productive G) marks
