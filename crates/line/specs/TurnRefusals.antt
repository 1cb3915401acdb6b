-- The number of each refusal of a turn; no value is told with it.
use Rattle.std.specs.Prelude.{ℕ, []}
use Rattle.grammar.specs.Refusals.{Told}
use Rattle.line.specs.declared.turn_refusal.TurnRefusal.{TurnRefusal}
use Rattle.line.specs.declared.turn_refusal.TurnRefusal.TheVariants.{Blank, NoDesigner, Status}
use Rattle.line.specs.declared.turn_refusal.TurnRefusal.TheVariants.{FullLine, NoWord, Reductions}
use Rattle.line.specs.declared.turn_refusal.TurnRefusal.TheVariants.{NoAction, FullBook}

-- A refusal that tells its number alone.
abbrev bare : ℕ → Told
bare c = record { number = c; values = [] }

abbrev pub told : TurnRefusal → Told
told Blank = bare 8
told NoDesigner = bare 9
told Status = bare 10
told FullLine = bare 11
told NoWord = bare 12
told Reductions = bare 13
told NoAction = bare 14
told FullBook = bare 15
