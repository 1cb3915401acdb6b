-- What is gathered along a relation of transitions: the words of the transitions that are reached.
use Rattle.std.proofs.Common.{◌≡◌, ℕ, ◌<◌, List, length, sym, refl, subst}
use Rattle.gather.specs.Gathered.{Gathered}
use Rattle.gather.specs.Members.{no_members, unite}
use Rattle.gather.specs.Reach.{Step, Reaches, here, step}
use Rattle.gather.specs.declared.word_set.WordSet.{WordSet}
use Rattle.gather.proofs.Paths.{reach_inside}
use Rattle.gather.proofs.Tracing.{members_reached}
use Rattle.grammar.specs.Lookahead.{Star, stop, go, Transition}
use Rattle.tables.specs.declared.rules.Rules.{Rules}
use Rattle.tables.specs.declared.states.States.{States}
use Rattle.tables.specs.Arrays.{grammar_of, automaton}
use Rattle.tables.specs.Transitions.{transition_at}
use Rattle.tables.specs.WordSets.{SetsOf}
use Rattle.tables.proofs.Transitions.{place}

-- The steps between places are those of a relation between transitions.
pub record StepsOf (R : Rules) (S : States) (Rel : ℕ × ℕ → ℕ × ℕ → Type 0) (targets : ℕ → List ℕ) : Type 0 where
  pub onto : (i j : ℕ) → i < 2304 → Step 2304 targets i j → Rel (transition_at R i) (transition_at R j)
  pub back : (i j : ℕ) → i < 2304 → j < 2304 → Rel (transition_at R i) (transition_at R j) → Step 2304 targets i j
  pub ends : (x y : ℕ × ℕ) → Rel x y → Transition (grammar_of R) (automaton R S) y

-- A word of something reached.
pub record Along (Rel : ℕ × ℕ → ℕ × ℕ → Type 0) (P : ℕ × ℕ → ℕ → Type 0) (x : ℕ × ℕ) (w : ℕ) : Type 0 where
  pub last : ℕ × ℕ
  pub steps : Star Rel x last
  pub there : P last w

module _ (R : Rules) (S : States) (Rel : ℕ × ℕ → ℕ × ℕ → Type 0) (targets : ℕ → List ℕ) (T : StepsOf R S Rel targets) where
  star_of : {i j : ℕ} → i < 2304 → Reaches 2304 targets i j → Star Rel (transition_at R i) (transition_at R j)
  star_of h here = stop
  star_of {i} h (step {t = t} s r) = go (T.onto i t h s) (star_of s.inside r)

  -- The place at the end of a way.
  record End (i : ℕ) (y : ℕ × ℕ) : Type 0 where
    place : ℕ
    is : transition_at R place ≡ y
    reached : Reaches 2304 targets i place

  reach_of : {x y : ℕ × ℕ} → Star Rel x y → (i : ℕ) → i < 2304 → transition_at R i ≡ x → End i y
  reach_of stop i h e = record { place = i; is = e; reached = here }
  reach_of {x} (go {b = b} s r) i h e =
      let j = place R S b (T.ends x b s) in
      let k : Step 2304 targets i j.place = T.back i j.place h j.inside (subst (λ u. Rel u (transition_at R j.place)) (sym e) (subst (λ u. Rel x u) (sym j.is) s)) in
      let f = reach_of r j.place j.inside j.is in
      record { place = f.place; is = f.is; reached = step k f.reached }

  pub gathered : (P : ℕ × ℕ → ℕ → Type 0) (seeds values : List WordSet) → length seeds ≡ 2304 → SetsOf (λ i w. P (transition_at R i) w) 2304 seeds → Gathered no_members unite targets seeds values → SetsOf (λ i w. Along Rel P (transition_at R i) w) 2304 values
  gathered P seeds values size s g =
      record {
        sound = λ i w h e.
            let r = (members_reached w targets seeds values g i (subst (λ n. i < n) (sym size) h)).back e in
            let k : Reaches 2304 targets i r.place = subst (λ n. Reaches n targets i r.place) size r.reached in
            record { last = transition_at R r.place; steps = star_of h k; there = s.sound r.place w (reach_inside h k) r.passes };
        whole = λ i w h a.
            let f = reach_of a.steps i h refl in
            let k : Reaches (length seeds) targets i f.place = subst (λ n. Reaches n targets i f.place) (sym size) f.reached in
            (members_reached w targets seeds values g i (subst (λ n. i < n) (sym size) h)).forth
            (record { place = f.place; reached = k; passes = s.whole f.place w (reach_inside h f.reached) (subst (λ x. P x w) (sym f.is) a.there) });
      }
