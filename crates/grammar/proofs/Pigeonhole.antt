-- Numbers below n that are apart are at most n many.
use Rattle.std.proofs.Common.{◌≡◌, ℕ, zero, suc, ◌<◌, ◌≤◌, cond, eqb, sym, ◌∙◌, inl, inr, arith}
use Rattle.std.proofs.lemmas.Bool.{cases_eq, cond-true, cond-false, eq-eqb, ne_eqb}

-- f, with what stands at k in the place of n.
abbrev skip : (ℕ → ℕ) → ℕ → ℕ → ℕ → ℕ
skip f n k i = cond (eqb (f i) n) (f k) (f i)

skip_at : (f : ℕ → ℕ) (n k i : ℕ) → f i ≡ n → skip f n k i ≡ f k
skip_at f n k i e = cond-true (eqb (f i) n) (f k) (f i) (eq-eqb (f i) n e)

skip_off : (f : ℕ → ℕ) (n k i : ℕ) → (f i ≡ n → ⊥) → skip f n k i ≡ f i
skip_off f n k i e = cond-false (eqb (f i) n) (f k) (f i) (ne_eqb (f i) n e)

pub pigeonhole : (n m : ℕ) (f : ℕ → ℕ) → ((i : ℕ) → i < m → f i < n) → ((i j : ℕ) → i < m → j < m → f i ≡ f j → i ≡ j) → m ≤ n
pigeonhole n zero f below apart = omega arith
pigeonhole zero (suc m) f below apart = absurd (omega (arith, below 0 (omega arith)))
pigeonhole (suc n) (suc m) f below apart =
    let r = pigeonhole n m (skip f n m) low far in omega arith
  where
    other : (i : ℕ) → i < m → f i ≡ n → f m ≡ n → ⊥
    other i l e d = let z : i ≡ m = apart i m (omega arith) (omega arith) (e ∙ sym d) in omega arith

    low : (i : ℕ) → i < m → skip f n m i < n
    low i l =
        elim (cases_eq (f i) n) [
          | inl e ↦ (let a = skip_at f n m i e in let b = below m (omega arith) in let k : f m ≡ n → ⊥ = other i l e in omega arith)
          | inr e ↦ (let a = skip_off f n m i e in let b = below i (omega arith) in omega arith)
        ]

    far : (i j : ℕ) → i < m → j < m → skip f n m i ≡ skip f n m j → i ≡ j
    far i j l h p =
        elim (cases_eq (f i) n) [
          | inl a ↦ elim (cases_eq (f j) n) [
            | inl b ↦ apart i j (omega arith) (omega arith) (a ∙ sym b)
            | inr b ↦ absurd (let z : m ≡ j = apart m j (omega arith) (omega arith) (sym (skip_at f n m i a) ∙ p ∙ skip_off f n m j b) in omega arith)
          ]
          | inr a ↦ elim (cases_eq (f j) n) [
            | inl b ↦ absurd (let z : i ≡ m = apart i m (omega arith) (omega arith) (sym (skip_off f n m i a) ∙ p ∙ skip_at f n m j b) in omega arith)
            | inr b ↦ apart i j (omega arith) (omega arith) (sym (skip_off f n m i a) ∙ p ∙ skip_off f n m j b)
          ]
        ]
