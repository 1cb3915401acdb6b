-- The items of a state, or why there are none.
use Rattle.std.proofs.Common.{◌≡◌, ℕ, ◌<◌, ◌≤◌, true, false, ◌&&◌, is_some, None, Some, Ok, Err, sym, ◌∙◌, ap, subst, arith, MatchOption, MatchResult, Option, Result}
use Rattle.std.specs.Result.{result_ok}
use Rattle.std.proofs.lemmas.Bool.{lt-ltb, true≢false, false≢true}
use Rattle.std.proofs.lemmas.Option.{none-some}
use Rattle.grammar.specs.Grammar.{Grammar}
use Rattle.grammar.specs.ItemLists.{items_of}
use Rattle.grammar.specs.StateLists.{has_at, state_at}
use Rattle.grammar.specs.States.{Automaton, Numbered}
use Rattle.grammar.specs.Outcome.{LowestUseless}
use Rattle.grammar.specs.Refusals.{Told}
use Rattle.grammar.proofs.NotCrowded.{not_crowded}
use Rattle.grammar.proofs.OneNumbering.{one_numbering}
use Rattle.tables.specs.declared.build_refusal.BuildRefusal.{BuildRefusal}
use Rattle.tables.specs.declared.items.Items.{Items}
use Rattle.tables.specs.declared.rules.Rules.{Rules}
use Rattle.tables.specs.declared.states.States.{States}
use Rattle.tables.specs.Admitted.{Admitted, Unread, off_limits, out_of_range}
use Rattle.tables.specs.AllUseful.{AllUseful}
use Rattle.tables.specs.Arrays.{grammar_of, automaton}
use Rattle.tables.specs.Numbering.{UsefulNumbering, TooManyStates}
use Rattle.tables.specs.StateItems.{Numbering, NoState, OfState}
use Rattle.tables.proofs.Outcomes.{sound_rules}
use Rattle.tables.proofs.RuleArrays.{within_rules}

-- A sheet that is not read has no numbering.
not_numbered : (G : Grammar) {t : Told} {n : ℕ} {A : Automaton} → Unread G t → Numbering G n A → ⊥
not_numbered G (off_limits h) N = h N.within
not_numbered G (out_of_range {r = r} w l) N = l.out (N.sound.in_range r l.is_rule)

pub unread_none :
    (G : Grammar) (s : ℕ) (r : Result Rules BuildRefusal)
    → Admitted G r
    → None ≡ result_ok r
    → NoState G s
unread_none G s (Ok R) a h = absurd (none-some _ h)
unread_none G s (Err e) a h = record { past = λ n A N. absurd (not_numbered G a N) }

module _ (R : Rules) where
  module _ (s : ℕ) where
    pub useless_none : (o : Option ℕ) → MatchOption o (AllUseful (grammar_of R)) (λ X. LowestUseless (grammar_of R) X) → true ≡ is_some o → NoState (grammar_of R) s
    useless_none None u h = absurd (true≢false h)
    useless_none (Some X) l h = record { past = λ n A N. absurd (N.sound.useful X l.useless) }

    pub crowded_none :
        (r : Result States BuildRefusal)
        → MatchResult r (λ S. Numbered (grammar_of R) S.count (automaton R S)) (TooManyStates R)
        → None ≡ result_ok r
        → NoState (grammar_of R) s
    crowded_none (Ok S) m h = absurd (none-some _ h)
    crowded_none (Err e) m h = record { past = λ n A N. absurd (not_crowded (grammar_of R) n A N.few N.numbered m.1) }

  pub all_useful : (o : Option ℕ) → MatchOption o (AllUseful (grammar_of R)) (λ X. LowestUseless (grammar_of R) X) → false ≡ is_some o → AllUseful (grammar_of R)
  all_useful None u h = u
  all_useful (Some X) l h = absurd (false≢true h)

  pub useful_numbering :
      (S : States) (r : Result States BuildRefusal)
      → MatchResult r (λ S. Numbered (grammar_of R) S.count (automaton R S)) (TooManyStates R)
      → Some S ≡ result_ok r
      → AllUseful (grammar_of R)
      → UsefulNumbering R S
  useful_numbering S (Ok T) m h u = record { useful = u; numbered = subst (λ o. MatchOption o ⊥ (λ U. Numbered (grammar_of R) U.count (automaton R U))) (sym h) m }
  useful_numbering S (Err e) m h u = absurd (none-some _ (sym h))

  module _ (S : States) (numbering : UsefulNumbering R S) (s : ℕ) where
    pub past_none : S.count ≤ s → NoState (grammar_of R) s
    past_none past = record { past = λ n A N. omega (arith, (one_numbering (grammar_of R) n S.count A (automaton R S) N.numbered numbering.numbered).0, past) }

    pub state_told : s < S.count → (x : Items) → x.set ≡ state_at S.sets s → OfState (grammar_of R) s x
    unfolding has_at
    state_told low x is =
        record {
          states = S.count;
          automaton = automaton R S;
          numbering = record { within = within_rules R; sound = sound_rules R numbering.useful; few = S.few; numbered = numbering.numbered };
          low = low;
          same = λ r d. ap (λ xs. items_of xs r d) is ∙ sym (ap (λ t. t && items_of (state_at S.sets s) r d) (lt-ltb s S.count low));
        }
