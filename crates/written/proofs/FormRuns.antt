-- Reading byte by byte: what a run over two pieces is, and how a test splits it.
use Rattle.std.proofs.Common.{◌≡◌, ℕ, Bool, true, false, cond, List, [], ◌∷◌, ◌++◌, Some, None, Option, refl, arith}
use Rattle.written.specs.Stages.{run, onward}
use Rattle.written.specs.declared.form.Stage.{Stage}
use Rattle.written.specs.declared.form.Stage.TheVariants.{Between}

pub run_append : (s : Option Stage) (as' bs : List ℕ) → run s (as' ++ bs) ≡ run (run s as') bs
run_append s [] bs = refl
run_append s (a ∷ as') bs = run_append (onward s a) as' bs

-- No byte mends a fault.
pub run_none : (bs : List ℕ) → run None bs ≡ None
run_none [] = refl
run_none (b ∷ bs) = run_none bs

-- The bytes lead to the end of a sheet.
abbrev pub Ended : Option Stage → List ℕ → Type 0
Ended s bs = run s bs ≡ Some Between

pub none_ended : (bs : List ℕ) → Ended None bs → ⊥
none_ended bs h = let none = run_none bs in let z : ◌≡◌ {A = ℕ} 0 1 = cc in omega arith

-- By the test that picks the stage.
pub ended_cases : {R : Type 0} (t : Bool) (x y : Option Stage) (bs : List ℕ) → (t ≡ true → Ended x bs → R) → (t ≡ false → Ended y bs → R) → Ended (cond t x y) bs → R
ended_cases true x y bs f g h = f refl h
ended_cases false x y bs f g h = g refl h
