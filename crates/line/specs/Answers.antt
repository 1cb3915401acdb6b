-- What turns answer.
use Rattle.std.specs.Prelude.{ℕ, Ok, Err, Result}
use Rattle.line.specs.TurnRefusals.{told}
use Rattle.line.specs.declared.turn_refusal.TurnRefusal.{TurnRefusal}

-- What a turn answers: what it gives, or the number of its refusal.
pub data Answer (B : Type 0) : Type 0 where
  given : B → Answer B
  refused : ℕ → Answer B

-- The turn was not refused.
abbrev pub IsGiven : {B : Type 0} → Answer B → Type 0
IsGiven (given x) = Unit {0}
IsGiven (refused c) = ⊥

-- The answer that a result stands for.
abbrev pub answer_of : {B : Type 0} → Result B TurnRefusal → Answer B
answer_of (Ok x) = given x
answer_of (Err e) = refused (told e).number
