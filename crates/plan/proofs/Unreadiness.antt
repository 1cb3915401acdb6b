-- Calls refused since the designer or the line is not as wanted.
use Rattle.std.proofs.Common.{◌≡◌, ℕ, ◌<◌, Bool, true, false, not, ltb, sym, ◌∙◌, arith, ltb-false, ltb-true}
use borrow.Author.Tests.{clash}
use Rattle.plan.specs.Account.{AccountLine}
use Rattle.plan.specs.RightAnswers.{Ready, Unready, no_designer, other_status}

other : (j : Bool) → j ≡ not j → ⊥
other true e = clash (sym e)
other false e = clash e

pub not_ready : {j : Bool} {d : ℕ} {l : AccountLine} {c : ℕ} → Unready j d l c → Ready j d l → ⊥
not_ready (no_designer h) y = omega (arith, y.designer_low)
not_ready {j} (other_status h e) y = other j (sym y.status ∙ e)

-- The test of the designer.
pub high_designer : (d : ℕ) → ltb 7 d ≡ true → 7 < d
high_designer d e = ltb-true 7 d e

pub low_designer : (d : ℕ) → ltb 7 d ≡ false → d < 8
low_designer d e = omega (arith, ltb-false 7 d e)
