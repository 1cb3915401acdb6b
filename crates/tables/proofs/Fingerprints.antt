-- Fingerprints, number by number and state by state.
use Rattle.std.proofs.Common.{◌≡◌, ℕ, ◌+◌, ◌*◌, ◌<◌, ◌≤◌, ◌≢◌, Bool, true, false, List, [], length, get_or, take, Option, Some, None, MatchOption, sym, ap, ◌∙◌, subst, mul-le-mul, add-one, arith, length-take}
use Rattle.std.specs.List.{AllWithin, HoldsAt, zip}
use Rattle.std.proofs.lemmas.List.{get_or-take}
use Rattle.std.proofs.lemmas.Slice.Zip.{length-zip, get_or-zip}
use Rattle.std.proofs.lemmas.Bool.{cond-true, cond-false}
use Rattle.grammar.specs.StateLists.{state_at}
use Rattle.tables.specs.Fingerprints.{cubes, Printed}

pub cubes_more : (n : ℕ) (xs : List Bool) → get_or xs n false ≡ true → cubes n xs + n * n * n ≡ cubes (n + 1) xs
unfolding cubes
cubes_more n xs h =
    omega (arith, cond-true (get_or xs n false) (n * n * n) 0 h, ap (λ k. cubes k xs) (add-one n))

pub cubes_skip : (n : ℕ) (xs : List Bool) → get_or xs n false ≡ false → cubes n xs ≡ cubes (n + 1) xs
unfolding cubes
cubes_skip n xs h =
    omega (arith, cond-false (get_or xs n false) (n * n * n) 0 h, ap (λ k. cubes k xs) (add-one n))

-- The cube of a number up to 873.
pub square_fits : (n : ℕ) → n ≤ 873 → n * n ≤ 762129
square_fits n h = mul-le-mul h h

pub cube_fits : (n : ℕ) → n ≤ 873 → n * n * n ≤ 665338617
cube_fits n h = mul-le-mul (square_fits n h) h

-- A set and its fingerprint are those looked for.
abbrev pub Like : ℕ → List Bool → List Bool × ℕ → Type 0
Like print items p = (p.1 ≡ print) × (p.0 ≡ items)

abbrev pub Unlike : ℕ → List Bool → List Bool × ℕ → Type 0
Unlike print items p = Like print items p → ⊥

module _ (end n : ℕ) (sets : List (List Bool)) (prints : List ℕ) (f : Printed end n sets prints) where
  -- Sets with other fingerprints differ.
  pub other_print : (items : List Bool) (j : ℕ) → j < n → state_at sets j ≡ items → get_or prints j 0 ≡ cubes end items
  other_print items j l e = f.each j l ∙ ap (cubes end) e

  -- The first state with its fingerprint is the first with its set.
  pub first_state : (items : List Bool) (r : Option ℕ) (print : ℕ) → print ≡ cubes end items → n ≤ 96 → length sets ≡ 96
      → MatchOption r (AllWithin (Unlike print items) (zip (take n sets) prints) 0 (length (zip (take n sets) prints))) (λ i. (i < length (zip (take n sets) prints)) × HoldsAt (Like print items) (zip (take n sets) prints) i × AllWithin (Unlike print items) (zip (take n sets) prints) 0 i)
      → MatchOption r ((j : ℕ) → j < n → state_at sets j ≢ items) (λ s. (s < n) × (state_at sets s ≡ items))
  first_state items r print is few size =
      go r
    where
      long : length (zip (take n sets) prints) ≡ n
      long = omega (arith, length-zip (take n sets) prints, length-take n sets, f.places)

      pair : (j : ℕ) → j < n → get_or (zip (take n sets) prints) j ([], 0) ≡ (state_at sets j, get_or prints j 0)
      pair j l =
          get_or-zip (take n sets) prints j ([], 0) (omega (arith, length-take n sets)) (omega (arith, f.places)) ∙ ap (λ xs. (xs, get_or prints j 0)) (get_or-take n sets j [] l)

      go : (r : Option ℕ) → MatchOption r (AllWithin (Unlike print items) (zip (take n sets) prints) 0 (length (zip (take n sets) prints))) (λ i. (i < length (zip (take n sets) prints)) × HoldsAt (Like print items) (zip (take n sets) prints) i × AllWithin (Unlike print items) (zip (take n sets) prints) 0 i) → MatchOption r ((j : ℕ) → j < n → state_at sets j ≢ items) (λ s. (s < n) × (state_at sets s ≡ items))
      go None all = λ j l e. (subst (Unlike print items) (pair j l) (all j ([], 0) (omega arith) (omega (arith, long)))) (other_print items j l e ∙ sym is, e)
      go (Some s) k = let l : s < n = omega (arith, long, k.0) in (l, (subst (Like print items) (pair s l) (k.1 ([], 0))).1)
