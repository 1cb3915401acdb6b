-- The lowest nonterminal that lacks a mark is the lowest useless one.
use Rattle.std.proofs.Common.{ℕ, ◌+◌, ◌<◌, ◌≤◌, Bool, false, List, get_or, Some, None, Option, inl, inr, arith, MatchOption}
use Rattle.std.proofs.lemmas.Bool.{both_ways, cases_Bool, cases_lt}
use Rattle.grammar.specs.Grammar.{IsNonterminal}
use Rattle.grammar.specs.Trees.{Productive}
use Rattle.grammar.specs.Useful.{Useless, Used}
use Rattle.grammar.specs.Outcome.{LowestUseless}
use Rattle.gather.specs.declared.mark.Mark.{Mark}
use Rattle.tables.specs.declared.rules.Rules.{Rules}
use Rattle.tables.specs.Arrays.{grammar_of}
use Rattle.tables.specs.AllUseful.{AllUseful}
use Rattle.tables.specs.CodeMarks.{Marked}
use Rattle.tables.specs.ProductiveMarks.{ProductiveMarks}
use Rattle.tables.specs.UsedMarks.{IsYes, UsedMarks, BothBelow, LowestUnmarked}
use Rattle.tables.proofs.RuleArrays.{terminals_is, nonterminals_is}

-- The first nonterminal without both marks is the lowest.
pub first_unmarked : (R : Rules) (productive : List Bool) (used : List Mark) (r : Option ℕ)
    → MatchOption r ((X : ℕ) → R.terminals + 1 ≤ X → X < R.terminals + R.nonterminals + 1 → Marked productive X × IsYes used X) (λ X. (R.terminals + 1 ≤ X) × (X < R.terminals + R.nonterminals + 1) × (Marked productive X × IsYes used X → ⊥) × ((Y : ℕ) → R.terminals + 1 ≤ Y → Y < X → Marked productive Y × IsYes used Y))
    → MatchOption r (BothBelow R productive used (R.terminals + R.nonterminals + 1)) (LowestUnmarked R productive used)
first_unmarked R productive used None all = λ X low high. all X (omega arith) high
first_unmarked R productive used (Some X) k =
    record { low = omega (arith, k.0); high = omega (arith, k.1); lacks = λ a b. k.2 (a, b); lower = λ Y low high. k.3 Y (omega arith) high }

module _ (R : Rules) (productive : List Bool) (used : List Mark) (p : ProductiveMarks (grammar_of R) productive) (u : UsedMarks (grammar_of R) used) where
  -- A nonterminal with both marks is of use.
  not_useless : (n Y : ℕ) → BothBelow R productive used n → Y < n → Useless (grammar_of R) Y → ⊥
  not_useless n Y b l v =
      let k = b Y (omega (arith, v.nonterminal.low, terminals_is R)) l in
      elim v.fault [ inl f ↦ f (p.sound Y k.0) | inr f ↦ f (u.sound Y k.1) ]

  lowest : (X : ℕ) → LowestUnmarked R productive used X → LowestUseless (grammar_of R) X
  lowest X k =
      record {
        useless = record {
          nonterminal = record { low = omega (arith, k.low, terminals_is R); high = omega (arith, k.high, terminals_is R, nonterminals_is R) };
          fault = elim (cases_Bool (get_or productive X false)) [
            | inl h ↦ inr (λ v. k.lacks h (u.whole X v))
            | inr h ↦ inl (λ v. both_ways (get_or productive X false) h (p.whole X v))
          ];
        };
        lower = λ Y v. elim (cases_lt Y X) [ inl l ↦ absurd (not_useless X Y k.lower l v) | inr g ↦ g ];
      }

  -- With both marks everywhere, every nonterminal is of use.
  both_marks : BothBelow R productive used (R.terminals + R.nonterminals + 1) → (X : ℕ) → IsNonterminal (grammar_of R) X → Productive (grammar_of R) X × Used (grammar_of R) X
  both_marks b X i =
      let k = b X (omega (arith, i.low, terminals_is R)) (omega (arith, i.high, terminals_is R, nonterminals_is R)) in
      (p.sound X k.0, u.sound X k.1)

  pub lowest_useless : (r : Option ℕ) → MatchOption r (BothBelow R productive used (R.terminals + R.nonterminals + 1)) (LowestUnmarked R productive used) → MatchOption r (AllUseful (grammar_of R)) (LowestUseless (grammar_of R))
  lowest_useless None b = record { productive = λ X i. (both_marks b X i).0; used = λ X i. (both_marks b X i).1 }
  lowest_useless (Some X) k = lowest X k
