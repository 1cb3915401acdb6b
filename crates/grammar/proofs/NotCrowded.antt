-- 97 reached sets do not fit 96 states.
use Rattle.std.proofs.Common.{◌≡◌, ℕ, ◌<◌, sym, ap, ◌∙◌, inl, inr, arith}
use Rattle.std.proofs.lemmas.Bool.{cases_lt}
use Rattle.grammar.specs.Grammar.{Grammar}
use Rattle.grammar.specs.Items.{Same}
use Rattle.grammar.specs.States.{Automaton, Numbered, Crowded}
use Rattle.grammar.specs.Theorems.{NotCrowded}
use Rattle.grammar.proofs.ReachedSets.{reached_listed}
use Rattle.grammar.proofs.Pigeonhole.{pigeonhole}

-- A number for each of the sets.
record Placed (n : ℕ) (A : Automaton) (G : Grammar) (C : Crowded G) (i : ℕ) : Type 0 where
  number : ℕ
  low : i < 97 → number < n
  same : i < 97 → Same (A.has number) (C.at i)

placed : (G : Grammar) (n : ℕ) (A : Automaton) → Numbered G n A → (C : Crowded G) (i : ℕ) → Placed n A G C i
placed G n A N C i =
    elim (cases_lt i 97) [
      | inl l ↦ (let at = reached_listed G n A N (C.reached i l) in record { number = at.number; low = λ _. at.low; same = λ _. at.same })
      | inr g ↦ record { number = 0; low = λ l. absurd (omega arith); same = λ l. absurd (omega arith) }
    ]

pub not_crowded : NotCrowded
not_crowded G n A few N C =
    let h = pigeonhole n 97 (λ i. (place i).number) (λ i l. (place i).low l) apart in omega arith
  where
    place : (i : ℕ) → Placed n A G C i
    place = placed G n A N C

    apart : (i j : ℕ) → i < 97 → j < 97 → (place i).number ≡ (place j).number → i ≡ j
    apart i j l k e = C.apart i j l k λ r d. sym ((place i).same l r d) ∙ ap (λ s. A.has s r d) e ∙ (place j).same k r d
