-- What is gathered along "is used by" from a mark at the start.
use Rattle.std.proofs.Common.{◌≡◌, ℕ, ◌+◌, false, List, length, replicate, sym, refl, ap, ◌∙◌, subst, inl, inr, arith}
use Rattle.std.proofs.lemmas.List.{get_or-set_same, get_or-set_other, get_or_past, length-set, length-replicate}
use Rattle.std.proofs.lemmas.Bool.{cases_eq, cases_lt, both_ways}
use Rattle.grammar.specs.Grammar.{start}
use Rattle.gather.specs.declared.mark.Mark.{Mark}
use Rattle.gather.specs.Gathered.{Gathered}
use Rattle.gather.specs.Marks.{marked, no_mark, either_mark}
use Rattle.gather.specs.Reach.{Reaches}
use Rattle.gather.proofs.Tracing.{marks_reached}
use Rattle.tables.specs.declared.rules.Rules.{Rules}
use Rattle.tables.specs.Arrays.{grammar_of}
use Rattle.tables.specs.UsedBy.{users}
use Rattle.tables.specs.UsedMarks.{IsYes, UsedMarks, StartYes}
use Rattle.tables.proofs.Replicas.{replicate_at}
use Rattle.tables.proofs.RuleArrays.{terminals_is}
use Rattle.tables.proofs.UsedBy.{used_reaches, reaches_used, used_below}

module _ (R : Rules) where
  start_is : R.terminals + 1 ≡ start (grammar_of R)
  unfolding start
  start_is = omega (arith, terminals_is R)

  module _ (seeds : List Mark) (y : StartYes R seeds) where
    seeds_length : length seeds ≡ 88
    seeds_length = ap length y.is ∙ length-set (replicate 88 no_mark) (R.terminals + 1) y.mark ∙ length-replicate 88 no_mark

    one_seed : (X : ℕ) → IsYes seeds X → X ≡ R.terminals + 1
    one_seed X h =
        elim (cases_eq X (R.terminals + 1)) [
          | inl e ↦ e
          | inr ne ↦ absurd (both_ways false refl (sym (ap marked (replicate_at no_mark 88 X)) ∙ ap marked (sym (get_or-set_other (replicate 88 no_mark) (R.terminals + 1) X y.mark no_mark ne)) ∙ subst (λ s. IsYes s X) y.is h))
        ]

    start_seed : IsYes seeds (R.terminals + 1)
    start_seed =
        subst (λ s. IsYes s (R.terminals + 1)) (sym y.is) (ap marked (get_or-set_same (replicate 88 no_mark) (R.terminals + 1) y.mark no_mark (omega (arith, R.terminals63, length-replicate 88 no_mark))) ∙ y.yes)

    pub used_marks : (values : List Mark) → Gathered no_mark either_mark (users R) seeds values → UsedMarks (grammar_of R) values
    used_marks values g =
        let size = seeds_length in
        record {
          sound = λ X k. elim (cases_lt X (length seeds)) [
            | inl l ↦ let w = (marks_reached (users R) seeds values g X l).back k in reaches_used R (length seeds) size w.reached (one_seed w.place w.passes ∙ start_is)
            | inr l ↦ absurd (both_ways false refl (sym (ap marked (get_or_past values X no_mark (omega (arith, g.size)))) ∙ k))
          ];
          whole = λ X u. (marks_reached (users R) seeds values g X (omega (arith, used_below R u, R.terminals63, R.nonterminals24))).forth (record {
            place = R.terminals + 1;
            reached = subst (λ Y. Reaches (length seeds) (users R) X Y) (sym start_is) (used_reaches R (length seeds) size u);
            passes = start_seed;
          });
        }
