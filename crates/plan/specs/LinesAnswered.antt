-- Whole lines with their answers, as turns of a plan.
use Rattle.std.specs.Prelude.{ℕ, List, [], ◌∷◌, ◌++◌, Some, Result}
use Rattle.line.specs.Answers.{answer_of}
use Rattle.line.specs.declared.turn_refusal.TurnRefusal.{TurnRefusal}
use Rattle.plan.specs.declared.whole_lines.LineAsked.{LineAsked}
use Rattle.plan.specs.Turns.{Turn}
use Rattle.plan.specs.WholeLines.{WholeLine}

-- The lines, in order, each with its answer behind it, and the turns that they took.
pub data LinesAnswered : List LineAsked → List LineAsked → List Turn → Type 0 where
  none : LinesAnswered [] [] []
  one_more : {xs ys : List LineAsked} {ts us : List Turn} (x : LineAsked) (r : Result ℕ TurnRefusal)
      → LinesAnswered xs ys ts
      → WholeLine x.designer x.words.now (answer_of r) us
      → LinesAnswered (xs ++ x ∷ [])
      (ys ++ record { designer = x.designer; words = x.words; answer = Some r } ∷ [])
      (ts ++ us)
