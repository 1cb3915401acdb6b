-- What passes a test in a list of numbers.
use Rattle.std.proofs.Common.{◌≡◌, ℕ, zero, suc, ◌+◌, ◌<◌, ◌≤◌, Bool, true, false, cond, List, [], ◌∷◌, ◌++◌, filter, length, get_or, sym, refl, ap, ◌∙◌, subst, inl, inr, append-nil, arith}
use Rattle.std.specs.List.{range_with_len}
use Rattle.std.proofs.lemmas.List.FromFn.{filter_of_map_range_with_len_more}
use mathlib.Core.List.{map-id}
use Rattle.std.proofs.lemmas.Bool.{cases_Bool}

-- What passes of one number more, counted from 0.
filter_next : (p : ℕ → Bool) (n : ℕ) → filter p (range_with_len 0 (n + 1)) ≡ filter p (range_with_len 0 n) ++ cond (p n) (n ∷ []) []
filter_next p n =
    sym (ap (filter p) (map-id (range_with_len 0 (n + 1)))) ∙ filter_of_map_range_with_len_more p (λ x. x) 0 n n (omega arith)
    ∙ ap (λ l. filter p l ++ cond (p n) (n ∷ []) []) (map-id (range_with_len 0 n))

pub filter_next_yes : (p : ℕ → Bool) (n : ℕ) → p n ≡ true → filter p (range_with_len 0 (n + 1)) ≡ filter p (range_with_len 0 n) ++ n ∷ []
filter_next_yes p n e = filter_next p n ∙ ap (λ b. filter p (range_with_len 0 n) ++ cond b (n ∷ []) []) e

pub filter_next_no : (p : ℕ → Bool) (n : ℕ) → p n ≡ false → filter p (range_with_len 0 (n + 1)) ≡ filter p (range_with_len 0 n)
filter_next_no p n e = filter_next p n ∙ ap (λ b. filter p (range_with_len 0 n) ++ cond b (n ∷ []) []) e ∙ append-nil (filter p (range_with_len 0 n))

-- Where a number stands in a list.
pub record At (l : List ℕ) (x : ℕ) : Type 0 where
  pub nr : ℕ
  pub listed : nr < length l
  pub there : get_or l nr 0 ≡ x

module _ (p : ℕ → Bool) where
  filter_yes : (x : ℕ) (l : List ℕ) → p x ≡ true → filter p (x ∷ l) ≡ x ∷ filter p l
  filter_yes x l e = ap (λ b. cond b (x ∷ filter p l) (filter p l)) e

  filter_no : (x : ℕ) (l : List ℕ) → p x ≡ false → filter p (x ∷ l) ≡ filter p l
  filter_no x l e = ap (λ b. cond b (x ∷ filter p l) (filter p l)) e

  pub few_filtered : (l : List ℕ) → length (filter p l) ≤ length l
  few_filtered [] = omega arith
  few_filtered (x ∷ l) =
      elim (cases_Bool (p x)) [
        | inl e ↦ omega (arith, few_filtered l, ap length (filter_yes x l e))
        | inr e ↦ omega (arith, few_filtered l, ap length (filter_no x l e))
      ]

  -- What is left of a list stood in it, and passes.
  pub record Passed (l : List ℕ) (x : ℕ) : Type 0 where
    pub at : At l x
    pub passes : p x ≡ true

  later : {l : List ℕ} {x : ℕ} (y : ℕ) → At l x → At (y ∷ l) x
  later y a = record { nr = suc a.nr; listed = omega (arith, a.listed); there = a.there }

  later_passed : {l : List ℕ} {x : ℕ} (y : ℕ) → Passed l x → Passed (y ∷ l) x
  later_passed y a = record { at = later y a.at; passes = a.passes }

  first : (x : ℕ) (l : List ℕ) → p x ≡ true → ((d : ℕ) → d < length (filter p l) → Passed l (get_or (filter p l) d 0)) → (d : ℕ) → d < length (x ∷ filter p l) → Passed (x ∷ l) (get_or (x ∷ filter p l) d 0)
  first x l e rest zero k = record { at = record { nr = 0; listed = omega arith; there = refl }; passes = e }
  first x l e rest (suc d) k = later_passed x (rest d (omega arith))

  pub filtered : (l : List ℕ) (d : ℕ) → d < length (filter p l) → Passed l (get_or (filter p l) d 0)
  filtered [] d h = absurd (omega arith)
  filtered (x ∷ l) d h =
      elim (cases_Bool (p x)) [
        | inl e ↦ subst (λ m. Passed (x ∷ l) (get_or m d 0)) (sym (filter_yes x l e)) (first x l e (filtered l) d (subst (λ m. d < length m) (filter_yes x l e) h))
        | inr e ↦ subst (λ m. Passed (x ∷ l) (get_or m d 0)) (sym (filter_no x l e)) (later_passed x (filtered l d (subst (λ m. d < length m) (filter_no x l e) h)))
      ]

  -- What passes is left.
  pub kept : (l : List ℕ) (k : ℕ) → k < length l → p (get_or l k 0) ≡ true → At (filter p l) (get_or l k 0)
  kept [] k h e = absurd (omega arith)
  kept (x ∷ l) zero h e = subst (λ m. At m x) (sym (filter_yes x l e)) (record { nr = 0; listed = omega arith; there = refl })
  kept (x ∷ l) (suc k) h e =
      let a = kept l k (omega arith) e in
      elim (cases_Bool (p x)) [
        | inl f ↦ subst (λ m. At m (get_or l k 0)) (sym (filter_yes x l f)) (later x a)
        | inr f ↦ subst (λ m. At m (get_or l k 0)) (sym (filter_no x l f)) a
      ]
