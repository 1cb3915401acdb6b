-- What marks say.
use Rattle.std.specs.Prelude.{Bool, false, ◌||◌}
use Rattle.gather.specs.Gathered.{TracedBy}
use Rattle.gather.specs.declared.mark.Mark.{Mark}

-- Whether the mark is yes.
abbrev pub marked : Mark → Bool
marked m = m.0

-- No.
abbrev pub no_mark : Mark
no_mark = record { 0 = false }

-- Yes if either is.
abbrev pub either_mark : Mark → Mark → Mark
either_mark a b = record { 0 = (a.0 || b.0) }

-- A gathered mark is yes exactly where its place reaches a seed that is yes.
abbrev pub MarksReached : Type 0
MarksReached = TracedBy no_mark either_mark marked
