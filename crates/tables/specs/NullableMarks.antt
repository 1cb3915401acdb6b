-- Marks at the nullable codes.
use Rattle.std.specs.Prelude.{Bool, List}
use Rattle.grammar.specs.Grammar.{Grammar}
use Rattle.grammar.specs.Trees.{Nullable}
use Rattle.tables.specs.CodeMarks.{MarksOf}

-- The marked codes are exactly the nullable ones.
abbrev pub NullableMarks : Grammar → List Bool → Type 0
NullableMarks G marks = MarksOf (Nullable G) marks
