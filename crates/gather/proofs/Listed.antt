-- What the answer for a place of a list says.
use Rattle.std.proofs.Common.{◌≡◌, ℕ, ◌<◌, ◌≤◌, List, length, get_or, Option, Some, None, sym, ap, ◌∙◌, ⊎_elim, arith}
use Rattle.std.specs.List.{slice_get}
use Rattle.std.proofs.lemmas.Option.{slice_get-get_or, slice_get_within, get_or_from_slice_get}
use Rattle.std.proofs.lemmas.Bool.{cases_lt}

pub nth_some : (xs : List ℕ) (k t : ℕ) → Some t ≡ slice_get xs k → (k < length xs) × (get_or xs k 0 ≡ t)
nth_some xs k t e = (slice_get_within xs k t (sym e), get_or_from_slice_get xs k t 0 (sym e))

pub nth_none : (xs : List ℕ) (k : ℕ) → None ≡ slice_get xs k → length xs ≤ k
nth_none xs k e =
    ⊎_elim
    (λ lt. let read = slice_get-get_or xs k 0 lt in let z : ◌≡◌ {A = ℕ} 0 1 = cc in absurd (omega arith))
    (λ ge. ge)
    (cases_lt k (length xs))

-- The same, told of equal relations and places.
pub listed_at : {R : Type 0} (targets : R → ℕ → List ℕ) {r r' : R} {p p' : ℕ} {o : Option ℕ} (k : ℕ) → r ≡ r' → p ≡ p' → o ≡ slice_get (targets r p) k → o ≡ slice_get (targets r' p') k
listed_at targets {r' = r'} {p = p} k e f h = h ∙ ap (λ y. slice_get (targets y p) k) e ∙ ap (λ y. slice_get (targets r' y) k) f
