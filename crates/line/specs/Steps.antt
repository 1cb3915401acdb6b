-- What a turn does to what it is made on, a line or a plan.
use Rattle.std.specs.Prelude.{ℕ, Ok, Err, Result}
use Rattle.line.specs.TurnRefusals.{told}
use Rattle.line.specs.declared.turn_refusal.TurnRefusal.{TurnRefusal}

-- It is done, gives something and leaves what comes then; or it is refused with a number, and all
-- is as it was.
pub data Step (S B : Type 0) : Type 0 where
  done : B → S → Step S B
  refused : ℕ → Step S B

-- The step that a call made, by its result and by what it left.
abbrev pub step_of : {S B : Type 0} → Result B TurnRefusal → S → Step S B
step_of (Ok x) s = done x s
step_of (Err e) s = refused (told e).number
