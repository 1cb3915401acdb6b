-- Two places, each a state and a code, are one, or one of them is earlier.
use Rattle.std.proofs.Common.{◌≡◌, ℕ, sym, inl, inr}
use Rattle.std.proofs.lemmas.Bool.{cases_order}
use Rattle.grammar.specs.States.{Earlier}

pub data Order (p X q Y : ℕ) : Type 0 where
  at_once : p ≡ q → X ≡ Y → Order p X q Y
  before : Earlier p X q Y → Order p X q Y
  after : Earlier q Y p X → Order p X q Y

pub order : (p X q Y : ℕ) → Order p X q Y
order p X q Y =
    elim (cases_order p q) [
      | inl e ↦ elim (cases_order X Y) [
        | inl f ↦ at_once e f
        | inr s ↦ elim s [ inl l ↦ before (inr (e, l)) | inr l ↦ after (inr (sym e, l)) ]
      ]
      | inr s ↦ elim s [ inl l ↦ before (inl l) | inr l ↦ after (inl l) ]
    ]
