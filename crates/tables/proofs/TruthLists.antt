-- Lists of truth values as sets of numbers.
use Rattle.std.proofs.Common.{◌≡◌, ℕ, zero, suc, ◌<◌, Bool, true, false, ◌⊎◌, List, [], ◌∷◌, length, get_or, set, replicate, sym, refl, ◌∙◌, subst, inl, inr, arith}
use Rattle.std.proofs.lemmas.List.{get_or-set_same, get_or-set_other, get_or_past}
use Rattle.std.proofs.lemmas.Bool.{both_ways, cases_eq, cases_lt}
use Rattle.grammar.specs.ItemLists.{In}
use Rattle.tables.specs.Closing.{falses}
use Rattle.tables.proofs.Replicas.{replicate_at}

pub in_below : (xs : List Bool) (i : ℕ) → In xs i → i < length xs
in_below xs i h =
    elim (cases_lt i (length xs)) [ inl l ↦ l | inr g ↦ absurd (both_ways (get_or xs i false) (get_or_past xs i false g) h) ]

pub in_none : (n i : ℕ) → In (replicate n false) i → ⊥
in_none n i h = both_ways (get_or (replicate n false) i false) (replicate_at false n i) h

pub in_set : (xs : List Bool) (i : ℕ) → i < length xs → In (set xs i true) i
in_set xs i h = get_or-set_same xs i true false h

pub in_keeps : (xs : List Bool) (i k : ℕ) → In xs k → In (set xs i true) k
in_keeps xs i k h =
    elim (cases_eq k i) [
      | inl e ↦ subst (λ j. In (set xs i true) j) (sym e) (in_set xs i (subst (λ j. j < length xs) e (in_below xs k h)))
      | inr ne ↦ get_or-set_other xs i k true false ne ∙ h
    ]

pub in_split : (xs : List Bool) (i k : ℕ) → In (set xs i true) k → (k ≡ i) ⊎ In xs k
in_split xs i k h =
    elim (cases_eq k i) [ inl e ↦ inl e | inr ne ↦ inr (sym (get_or-set_other xs i k true false ne) ∙ h) ]

-- One more is in.
pub falses_set : (xs : List Bool) (i : ℕ) → i < length xs → get_or xs i false ≡ false → falses (set xs i true) < falses xs
falses_set [] i l e = absurd (omega arith)
falses_set (true ∷ xs) zero l e = absurd (both_ways true e refl)
falses_set (false ∷ xs) zero l e = omega arith
falses_set (true ∷ xs) (suc i) l e = falses_set xs i (omega arith) e
falses_set (false ∷ xs) (suc i) l e = let h = falses_set xs i (omega arith) e in omega arith
