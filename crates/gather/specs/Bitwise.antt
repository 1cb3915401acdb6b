-- Bits of numbers: of a union, of a power of two, and of equal numbers.
use Rattle.std.specs.Prelude.{◌≡◌, ℕ, zero, suc, ◌^◌, ◌<◌, ◌≤◌, bit_or, false, ◌||◌, ◌==◌, refl}
use Rattle.std.specs.Int.{bit_at}
use Rattle.std.proofs.Common.{inl, inr, sym, ap, ◌∙◌, arith}
use Rattle.std.proofs.lemmas.Nat.Bits.{bit_at-zero, bit_at-lt, bit_at_or, bit_at-pow_same, bit_at-pow_other, bit_at_above, same_from_bits}
use Rattle.std.proofs.lemmas.Bool.{cases_eq, cases_Bool, eqb-true, eqb-false, eq-eqb, ne_eqb, or_left, or_right, or_from}
use Rattle.gather.specs.Bits.{is_bit}

pub is_bit_lem : (n k : ℕ) → is_bit n k ≡ (bit_at n k == 1)
is_bit_lem zero k = sym (ne_eqb (bit_at 0 k) 1 (λ e. omega (arith, bit_at-zero k)))
is_bit_lem (suc n) k = refl

pub is_bit_or : (a b k : ℕ) → is_bit (bit_or a b) k ≡ (is_bit a k || is_bit b k)
is_bit_or a b k =
    let e = bit_at_or a b k in
    let la = bit_at-lt a k in
    let lb = bit_at-lt b k in
    rw (is_bit_lem (bit_or a b) k, is_bit_lem a k, is_bit_lem b k)
    (elim (cases_eq (bit_at a k) 1) [
      | inl p ↦ eq-eqb (bit_at (bit_or a b) k) 1 (omega arith) ∙ sym (or_left (bit_at a k == 1) (bit_at b k == 1) (eq-eqb (bit_at a k) 1 p))
      | inr p ↦
          elim (cases_eq (bit_at b k) 1) [
            | inl q ↦ eq-eqb (bit_at (bit_or a b) k) 1 (omega arith) ∙ sym (or_right (bit_at a k == 1) (bit_at b k == 1) (eq-eqb (bit_at b k) 1 q))
            | inr q ↦ ne_eqb (bit_at (bit_or a b) k) 1 (λ h. omega arith) ∙ sym (or_from (bit_at a k == 1) (bit_at b k == 1) (ne_eqb (bit_at a k) 1 p) (ne_eqb (bit_at b k) 1 q))
          ]
    ])

pub is_bit_pow : (e k : ℕ) → is_bit (2 ^ e) k ≡ (k == e)
is_bit_pow e k =
    is_bit_lem (2 ^ e) k
    ∙ elim (cases_eq k e) [
      | inl p ↦ eq-eqb (bit_at (2 ^ e) k) 1 (ap (bit_at (2 ^ e)) p ∙ bit_at-pow_same e) ∙ sym (eq-eqb k e p)
      | inr ne ↦ ne_eqb (bit_at (2 ^ e) k) 1 (λ p. omega (arith, bit_at-pow_other e k ne)) ∙ sym (ne_eqb k e ne)
    ]

-- A number below 2 ^ m has no bit at the place m or above.
pub is_bit_high : (n m k : ℕ) → n < 2 ^ m → m ≤ k → is_bit n k ≡ false
is_bit_high n m k small high = is_bit_lem n k ∙ ne_eqb (bit_at n k) 1 (λ e. omega (arith, bit_at_above n m k small high))

bit_test : (m n : ℕ) → m < 2 → n < 2 → (m == 1) ≡ (n == 1) → m ≡ n
bit_test m n lm ln e =
    elim (cases_Bool (m == 1)) [
      | inl p ↦ eqb-true m 1 p ∙ sym (eqb-true n 1 (sym e ∙ p))
      | inr p ↦ (let f = eqb-false m 1 p in let g = eqb-false n 1 (sym e ∙ p) in omega arith)
    ]

-- Numbers with the same bits are equal.
pub by_bits : (a b : ℕ) → ((k : ℕ) → is_bit a k ≡ is_bit b k) → a ≡ b
by_bits a b same = same_from_bits a b (λ k. bit_test (bit_at a k) (bit_at b k) (bit_at-lt a k) (bit_at-lt b k) (sym (is_bit_lem a k) ∙ same k ∙ is_bit_lem b k))
