-- Read sets gathered along includes are follow sets.
use Rattle.std.proofs.Common.{◌≡◌, ℕ, List, length, get_or, subst, arith}
use Rattle.gather.specs.Gathered.{Gathered}
use Rattle.gather.specs.Members.{no_members, unite}
use Rattle.gather.specs.declared.word_set.WordSet.{WordSet}
use Rattle.grammar.specs.Lookahead.{Includes, Read}
use Rattle.tables.specs.declared.grouped.Grouped.{Grouped}
use Rattle.tables.specs.declared.rules.Rules.{Rules}
use Rattle.tables.specs.declared.states.States.{States}
use Rattle.tables.specs.declared.step.Step.{Step as Listing}
use Rattle.tables.specs.Arrays.{grammar_of, automaton}
use Rattle.tables.specs.Groups.{group_at, GroupsOf}
use Rattle.tables.specs.IncludeSteps.{sources, Listed, AllSteps}
use Rattle.tables.specs.Transitions.{transition_at, place_of, ReadAt, FollowAt}
use Rattle.tables.specs.WordSets.{SetsOf}
use Rattle.tables.proofs.Gathering.{StepsOf, gathered}

module _ (R : Rules) (S : States) where
  -- The place of the transition at a place is the place itself.
  place_again : (i : ℕ) → place_of R (transition_at R i).0 (transition_at R i).1 ≡ i
  place_again i = omega arith

  module _ (s : List Listing) (g : Grouped) (a : AllSteps R S s) (b : GroupsOf s g) where
    abbrev Right : ℕ → ℕ → Type 0
    Right i j = Includes (grammar_of R) (automaton R S) (transition_at R i) (transition_at R j)

    listed_includes : (i j : ℕ) → Listed s i j → Right i j
    listed_includes i j l = subst (λ m. Right m j) l.source (subst (λ m. Right (get_or (sources s) l.entry 0) m) l.target (a.sound l.entry l.inside))

    includes_listed : (i j : ℕ) → Right i j → Listed s i j
    includes_listed i j r = subst (λ m. Listed s m j) (place_again i) (subst (λ m. Listed s (place_of R (transition_at R i).0 (transition_at R i).1) m) (place_again j) (a.whole (transition_at R i) (transition_at R j) r))

    includes_steps : StepsOf R S (Includes (grammar_of R) (automaton R S)) (group_at g)
    includes_steps = record {
      onto = λ i j h t. listed_includes i j (b.sound i j h t);
      back = λ i j h l r. b.whole i j h l (includes_listed i j r);
      ends = λ x y r. r.to;
    }

    pub follow_sets : (seeds values : List WordSet) → length seeds ≡ 2304 → SetsOf (ReadAt R S) 2304 seeds → Gathered no_members unite (group_at g) seeds values → SetsOf (FollowAt R S) 2304 values
    follow_sets seeds values size reads gathers =
        let G = grammar_of R in
        let A = automaton R S in
        let f = gathered R S (Includes G A) (group_at g) includes_steps (Read G A) seeds values size reads gathers in
        record {
          sound = λ i w h e. let r = f.sound i w h e in record { last = r.last; steps = r.steps; read = r.there };
          whole = λ i w h r. f.whole i w h (record { last = r.last; steps = r.steps; there = r.read });
        }
