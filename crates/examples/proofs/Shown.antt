-- The joint table, shown: by the certificates, and by computing the turns.
use Rattle.std.proofs.Common.{◌≡◌, ℕ, zero, suc, ◌<◌, take, arith, true, false, ◌&&◌, ◌||◌, eqb, ◌⊎◌, ◌↔◌, sym, refl, inl, inr, ⊎_elim}
use Rattle.std.proofs.lemmas.Bool.{and_parts, or_cases, eqb-true, false≢true}
use Rattle.grammar.specs.Grammar.{left_side, right_side}
use Rattle.grammar.specs.Lookahead.{Lookahead}
use Rattle.grammar.specs.Line.{runs}
use Rattle.grammar.specs.Outcome.{Outcome, Built, built}
use Rattle.grammar.specs.Refusals.{conflict}
use Rattle.grammar.specs.declared.action.Action.TheVariants.{Reduce}
use Rattle.sheet.specs.PackedRefusals.{off_told}
use Rattle.sheet.specs.Packing.{Lies, lowest, OffTold, tells}
use Rattle.examples.specs.Tables.{automaton, cells}
use Rattle.examples.specs.Sheets.{sheet_a, sheet_b, sheet_c, packed_a, tables_a, tables_b}
use Rattle.examples.specs.Worked.{Worked}
use Rattle.examples.proofs.OutcomeTest.{outcome, lookahead}
use Rattle.examples.proofs.Certificates.{certificate_a, certificate_b, certificate_c, passed_a, passed_b, passed_c}

-- The first three bodies are in their layout.
first_lie : (j : ℕ) → j < 3 → Lies (take 20 packed_a) j
first_lie zero h = (refl, omega arith)
first_lie (suc zero) h = (refl, omega arith)
first_lie (suc (suc zero)) h = (refl, omega arith)
first_lie (suc (suc (suc j))) h = absurd (omega arith)

a_cut : OffTold (take 20 packed_a) (off_told 4)
a_cut = tells (lowest {r = 3} (omega arith) (omega arith) first_lie (λ l. absurd (omega (arith, l.1))))

a_builds : Outcome sheet_a (built 8 (automaton tables_a) (cells tables_a))
unfolding certificate_a tables_a
a_builds = outcome sheet_a certificate_a passed_a

b_builds : Outcome sheet_b (built 10 (automaton tables_b) (cells tables_b))
unfolding certificate_b tables_b
b_builds = outcome sheet_b certificate_b passed_b

c_conflict : Outcome sheet_c (Built.refused (conflict 2 1 (Reduce 5) (Reduce 6)))
unfolding certificate_c
c_conflict = outcome sheet_c certificate_c passed_c

-- One of two numbers, as a test that computes to this.
one_of : (a b w : ℕ) → (eqb a w && true || (eqb b w && true || false)) ≡ true → (w ≡ a) ⊎ (w ≡ b)
one_of a b w h =
    ⊎_elim (λ e. inl (sym (eqb-true a w (and_parts (eqb a w) true e).0)))
    (λ e. ⊎_elim (λ f. inr (sym (eqb-true b w (and_parts (eqb b w) true f).0))) (λ f. absurd (false≢true f)) (or_cases (eqb b w && true) false e))
    (or_cases (eqb a w && true) (eqb b w && true || false) h)

a_lookahead : (w : ℕ) → Lookahead sheet_a (automaton tables_a) 4 2 w ↔ ((w ≡ 0) ⊎ (w ≡ 3))
unfolding sheet_a tables_a certificate_a left_side right_side
a_lookahead w =
    let k = lookahead sheet_a certificate_a passed_a 4 2 in
    (λ l. one_of 0 3 w ((k w).0 l), λ o. ⊎_elim (λ e. rw e ((k 0).1 refl)) (λ e. rw e ((k 3).1 refl)) o)

pub worked : Worked
unfolding sheet_a tables_a tables_b left_side right_side runs
worked =
    record {
      a_packed = refl;
      a_cut = a_cut;
      a_builds = a_builds;
      a_lookahead = a_lookahead;
      a_line = refl;
      a_first_word = refl;
      a_empty_line = refl;
      b_builds = b_builds;
      b_shifts = refl;
      b_reduces = refl;
      c_conflict = c_conflict;
    }
