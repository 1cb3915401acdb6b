-- What a lookup finds stands in its list.
use Rattle.std.proofs.Common.{◌≡◌, ℕ, zero, suc, ◌≤◌, Bool, true, false, cond, ◌⊎◌, List, [], ◌∷◌, length, get_or, sym, refl, ◌∙◌, subst, inl, inr, arith, Some}
use Rattle.std.proofs.lemmas.Option.{same_Some}
use mathlib.Core.Bool.{false≢true}
use mathlib.Core.List.Memᴰ
use mathlib.Core.List.{Memᴰ}
use Rattle.examples.specs.Tables.{same_pair, lookup}
use Rattle.examples.proofs.Tests.{pairs}

pub mem_lookup : {B : Type 0} (l : List ((ℕ × ℕ) × B)) (a b : ℕ) (y : B) → lookup l a b ≡ Some y → Memᴰ ((a, b), y) l
mem_lookup [] a b y h = cc
mem_lookup {B} (x ∷ l) a b y h = pick (same_pair (a, b) x.0) refl h (mem_lookup l a b y)
  where
    pick : (c : Bool) → same_pair (a, b) x.0 ≡ c → cond c (Some x.1) (lookup l a b) ≡ Some y → (lookup l a b ≡ Some y → Memᴰ ((a, b), y) l) → Memᴰ ((a, b), y) (x ∷ l)
    pick true e g k = Memᴰ.head (λ i. (pairs.sound (a, b) x.0 e i, sym (same_Some _ _ g) i))
    pick false e g k = Memᴰ.tail (k g)

-- What stands in the list is found, or something before it.
pub lookup_of : {B : Type 0} (l : List ((ℕ × ℕ) × B)) (a b : ℕ) (y : B) → Memᴰ ((a, b), y) l → (z : B) × (lookup l a b ≡ Some z)
lookup_of [] a b y m = elim m [ ]
lookup_of {B} (x ∷ l) a b y m = pick (same_pair (a, b) x.0) refl (Memᴰ.cases_cons m) (lookup_of l a b y)
  where
    pick : (c : Bool) → same_pair (a, b) x.0 ≡ c → (((a, b), y) ≡ x) ⊎ Memᴰ ((a, b), y) l → (Memᴰ ((a, b), y) l → (z : B) × (lookup l a b ≡ Some z)) → (z : B) × (cond c (Some x.1) (lookup l a b) ≡ Some z)
    pick true e o k = (x.1, refl)
    pick false e (inl q) k = absurd (false≢true (sym e ∙ subst (λ v. same_pair (a, b) v.0 ≡ true) q (pairs.reflexive (a, b))))
    pick false e (inr n) k = k n

-- Behind the last state there are no items.
pub beyond : (l : List (List (ℕ × ℕ))) (s : ℕ) → length l ≤ s → get_or l s [] ≡ []
beyond [] s h = refl
beyond (x ∷ l) zero h = absurd (omega arith)
beyond (x ∷ l) (suc s) h = beyond l s (omega arith)
