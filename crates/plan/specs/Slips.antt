-- Slips that calls take, and hand back with a refusal.
use Rattle.std.specs.Prelude.{◌≡◌, Ok, Err, Result}
use Rattle.line.specs.declared.turn_refusal.TurnRefusal.{TurnRefusal}
use Rattle.plan.specs.Turns.{SlipModel}

-- The answer of a call with the slip that it took, if the call was refused.
abbrev pub handed : {B : Type 0}
    → SlipModel
    → Result B TurnRefusal
    → Result B (TurnRefusal × SlipModel)
handed s (Ok x) = Ok x
handed s (Err e) = Err (e, s)

-- The answer without the slip.
abbrev pub unhanded : {B : Type 0} → Result B (TurnRefusal × SlipModel) → Result B TurnRefusal
unhanded (Ok x) = Ok x
unhanded (Err e) = Err e.0

-- The slip that comes back is the one handed over.
abbrev pub HandedBack : {B : Type 0} → SlipModel → Result B (TurnRefusal × SlipModel) → Type 0
HandedBack s (Ok x) = Unit {0}
HandedBack s (Err e) = e.1 ≡ s
