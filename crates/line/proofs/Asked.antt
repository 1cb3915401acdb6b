-- Lines that have the status that a turn asks for.
use Rattle.std.proofs.Common.{◌≡◌, Bool, true, false, cond, refl}
use Rattle.line.specs.Steps.{Step, done, refused}
use Rattle.line.specs.LineTurns.{asking}
use Rattle.line.specs.PlanLines.{PlanLine}

module _ {B : Type 0} (l : PlanLine) (t : Step PlanLine B) where
  judged_asked : (b : Bool) → ◌≡◌ {A = Step PlanLine (Unit {0})} (cond b (done tt l) (refused 10)) (done tt l) → cond b t (refused 10) ≡ t
  judged_asked true e = refl
  judged_asked false e = cc

  open_asked : (b : Bool) → ◌≡◌ {A = Step PlanLine (Unit {0})} (cond b (refused 10) (done tt l)) (done tt l) → cond b (refused 10) t ≡ t
  open_asked true e = cc
  open_asked false e = refl

  -- Where asking for the status alone is not refused, a turn that asks for it goes on.
  pub asked : (j : Bool) → ◌≡◌ {A = Step PlanLine (Unit {0})} (asking j l (done tt l)) (done tt l) → asking j l t ≡ t
  asked true e = judged_asked l.judged e
  asked false e = open_asked l.judged e
