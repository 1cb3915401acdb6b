-- Words listed by place, each with its reason before it: exactly the seeds of all places that are reached.
use Rattle.std.proofs.Common.{◌≡◌, ℕ, Bool, true, not, ◌&&◌, ◌||◌, eqb, ◌⊎◌, List, [], ◌∷◌, subst, inl, inr}
use Rattle.std.specs.List.{list_any, list_all}
use mathlib.Core.List.{Memᴰ}
use Rattle.std.proofs.lemmas.Bool.{and_parts, or_cases, eqb-true}
use Rattle.grammar.specs.Lookahead.{Star, stop, go}
use Rattle.examples.specs.Tables.{same_pair}
use Rattle.examples.proofs.Tests.{implies, all_at, any_at, Equality, same_both, numbers, both, pairs, member, mem_from, conj, passed}
use Rattle.examples.proofs.Ordered.{ordered, Each, in_order}

-- A word at a place.
abbrev pub Entry : Type 0
Entry = (ℕ × ℕ) × ℕ

abbrev pub has : List Entry → Entry → Bool
has l e = member (same_both same_pair eqb) l e

pub entries : Equality (same_both same_pair eqb)
entries = both pairs numbers

-- A word is a seed, or stands before at a place to which there is a step.
abbrev arrives : (ℕ × ℕ → ℕ × ℕ → Bool) → List Entry → List Entry → Entry → Bool
arrives step seeds before e = has seeds e || list_any (λ f. eqb f.1 e.1 && step e.0 f.0) before

abbrev goes_back : (ℕ × ℕ → ℕ × ℕ → Bool) → List Entry → Entry → Entry → Bool
goes_back step l f m = not (step m.0 f.0) || has l (m.0, f.1)

-- Steps go out from the places of the moves alone.
unfoldable pub gather_tests : (ℕ × ℕ → ℕ × ℕ → Bool) → List Entry → List Entry → List Entry → List Bool
gather_tests step moves seeds l =
    ordered (arrives step seeds) [] l
    ∷ list_all (has l) seeds
    ∷ list_all (λ f. list_all (goes_back step l f) moves) l
    ∷ []

module _ (R : ℕ × ℕ → ℕ × ℕ → Type 0) (step : ℕ × ℕ → ℕ × ℕ → Bool) (from : (x y : ℕ × ℕ) → step x y ≡ true → R x y) (seeds : List Entry) where
  -- A seed of a place that is reached.
  pub record Gathered (e : Entry) : Type 0 where
    pub last : ℕ × ℕ
    pub steps : Star R e.0 last
    pub seed : has seeds (last, e.1) ≡ true

  reason : (before : List Entry) (e : Entry) → Each Gathered before → arrives step seeds before e ≡ true → Gathered e
  reason before e k h = pick (or_cases (has seeds e) _ h)
    where
      pick : (has seeds e ≡ true) ⊎ (list_any (λ f. eqb f.1 e.1 && step e.0 f.0) before ≡ true) → Gathered e
      pick (inl s) = record { last = e.0; steps = stop; seed = s }
      pick (inr s) =
          let z = any_at (λ f. eqb f.1 e.1 && step e.0 f.0) before s in
          let p = and_parts (eqb z.0.1 e.1) (step e.0 z.0.0) z.2 in
          let g = k z.0 z.1 in
          record { last = g.last; steps = go (from e.0 z.0.0 p.1) g.steps; seed = subst (λ w. has seeds (g.last, w) ≡ true) (eqb-true z.0.1 e.1 p.0) g.seed }

  module _ (to : (x y : ℕ × ℕ) → R x y → step x y ≡ true) (moves l : List Entry) (starts : (x y : ℕ × ℕ) → R x y → (u : ℕ) × Memᴰ (x, u) moves) (ok : conj (gather_tests step moves seeds l) ≡ true) where
    pub gathered_from : (x : ℕ × ℕ) (w : ℕ) → has l (x, w) ≡ true → Gathered (x, w)
    unfolding gather_tests
    gathered_from x w h = in_order Gathered (arrives step seeds) reason l (passed (gather_tests step moves seeds l) ok 0) (x, w) (mem_from entries l (x, w) h)

    pub gathered_to : {x y : ℕ × ℕ} (w : ℕ) → Star R x y → has seeds (y, w) ≡ true → has l (x, w) ≡ true
    unfolding gather_tests
    gathered_to {x} w stop h = all_at (has l) seeds (passed (gather_tests step moves seeds l) ok 1) (mem_from entries seeds (x, w) h)
    gathered_to {x} w (go {b = z} r s) h =
        let m = starts x z r in
        implies (step x z) (has l (x, w))
        (all_at (goes_back step l (z, w)) moves (all_at (λ f. list_all (goes_back step l f) moves) l (passed (gather_tests step moves seeds l) ok 2) (mem_from entries l (z, w) (gathered_to w s h))) m.1) (to x z r)
