-- How many places are not seen yet.
use Rattle.std.proofs.Common.{◌≡◌, ℕ, suc, ◌+◌, ◌<◌, ◌≤◌, Bool, false, cond, List, [], ◌∷◌, length, get_or, set, refl, ap, arith}
use Rattle.std.proofs.lemmas.List.Sums.{sum_by-cons, sum_by-set}
use Rattle.gather.specs.declared.visit.Visit.{Visit}
use Rattle.gather.specs.declared.visit.Visit.TheVariants.{Unseen, Open, Done}
use Rattle.gather.specs.Stack.{unseen}
use Rattle.gather.specs.Visits.{is_unseen, rank}

pub is_seen : (v : Visit) → 1 ≤ rank v → is_unseen v ≡ false
is_seen Unseen l = absurd (omega arith)
is_seen (Open low) l = refl
is_seen Done l = refl

abbrev one_if_unseen : Visit → ℕ
one_if_unseen v = cond (is_unseen v) 1 0

pub unseen_same : (m m' : List Visit) → length m' ≡ length m → ((p : ℕ) → p < length m → is_unseen (get_or m' p Unseen) ≡ is_unseen (get_or m p Unseen)) → unseen m' ≡ unseen m
unseen_same [] [] long h = refl
unseen_same [] (w ∷ m') long h = absurd (omega arith)
unseen_same (v ∷ m) [] long h = absurd (omega arith)
unseen_same (v ∷ m) (w ∷ m') long h =
    let rest : unseen m' ≡ unseen m = unseen_same m m' (omega arith) (λ p l. h (suc p) (omega arith)) in
    let first : one_if_unseen w ≡ one_if_unseen v = ap (λ (b : Bool). cond b 1 0) (h 0 (omega arith)) in
    omega (arith, sum_by-cons one_if_unseen v m, sum_by-cons one_if_unseen w m')

pub unseen_less : (m : List Visit) (x low : ℕ) → x < length m → get_or m x Unseen ≡ Unseen → unseen (set m x (Open low)) + 1 ≡ unseen m
unseen_less m x low l fresh =
    let one : one_if_unseen (get_or m x Unseen) ≡ 1 = ap one_if_unseen fresh in
    omega (arith, sum_by-set one_if_unseen m x (Open low) Unseen l)
