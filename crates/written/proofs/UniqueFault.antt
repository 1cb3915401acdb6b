-- A text has one place where it cannot go on.
use Rattle.std.proofs.Common.{◌≡◌, ℕ, suc, ◌<◌, ◌≤◌, List, ◌++◌, take, drop, sym, ap, ◌∙◌, subst, ⊎_elim, append_assoc, arith, take-append-drop}
use Rattle.std.proofs.lemmas.List.{take-take}
use Rattle.std.proofs.lemmas.Bool.{cases_order}
use Rattle.written.specs.Form.{WellFormed, Viable, Misplaced}

-- What begins bytes that can go on can go on.
viable_front : (text : List ℕ) (m n : ℕ) → m ≤ n → Viable (take n text) → Viable (take m text)
viable_front text m n le v =
    let front = take n text in
    let same = sym (take-append-drop m front) ∙ ap (λ l. l ++ drop m front) (take-take m n text le) in
    let whole = ap (λ l. l ++ v.rest) same ∙ append_assoc (take m text) (drop m front) v.rest in
    record { rest = drop m front ++ v.rest; well_formed = subst WellFormed whole v.well_formed }

not_before : (text : List ℕ) (p q : ℕ) → Misplaced text p → Misplaced text q → p < q → ⊥
not_before text p q a b lt = a.first (omega (arith, b.within)) (viable_front text (suc p) q lt b.viable)

pub misplaced_unique : (text : List ℕ) (p q : ℕ) → Misplaced text p → Misplaced text q → p ≡ q
misplaced_unique text p q a b =
    ⊎_elim (λ e. e) (λ apart. absurd (⊎_elim (λ lt. not_before text p q a b lt) (λ lt. not_before text q p b a lt) apart)) (cases_order p q)
