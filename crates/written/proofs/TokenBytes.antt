-- Bytes that the tests of a token tell apart.
use Rattle.std.proofs.Common.{◌≡◌, ℕ, true, false, not, ◌&&◌, eqb, leb, sym, refl, ap, ◌∙◌, ⊎_elim}
use Rattle.std.proofs.lemmas.Bool.{both_ways, or_cases, and_parts, not-true, eqb-true, cases_Bool}
use Rattle.written.specs.Tokens.{blank, letter, quotable}

-- A letter is no blank.
pub letter_dark : (b : ℕ) → letter b ≡ true → blank b ≡ false
letter_dark b y =
    ⊎_elim
    (λ light. absurd (⊎_elim (λ e. both_ways (letter 32) refl (ap letter (sym (eqb-true b 32 e)) ∙ y)) (λ e. both_ways (letter 10) refl (ap letter (sym (eqb-true b 10 e)) ∙ y)) (or_cases _ _ light)))
    (λ dark. dark)
    (cases_Bool (blank b))

-- A byte that may stand between quotes is no quote.
pub quotable_inner : (b : ℕ) → quotable b ≡ true → eqb b 34 ≡ false
quotable_inner b y = not-true (eqb b 34) (and_parts (leb 33 b && leb b 126) (not (eqb b 34)) y).1
