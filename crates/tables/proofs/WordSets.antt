-- Word sets filled word by word, and lists of them place by place.
use Rattle.std.proofs.Common.{◌≡◌, ℕ, ◌+◌, ◌<◌, true, false, ◌&&◌, ◌||◌, eqb, ltb, List, length, get_or, set, refl, sym, ◌∙◌, subst, inl, inr, arith}
use Rattle.std.proofs.lemmas.List.{get_or-set_same, get_or-set_other}
use Rattle.std.proofs.lemmas.Bool.{cases_eq, and_parts, and_from, eqb-true, eq-eqb, lt-ltb, or_cases, or_left, or_right, both_ways}
use Rattle.gather.specs.Members.{has, no_members}
use Rattle.gather.specs.declared.word_set.WordSet.{WordSet}
use Rattle.tables.specs.WordSets.{WordsBelow, SetsOf}

module _ (P : ℕ → Type 0) where
  -- No words yet.
  pub words_none : WordsBelow P 0 no_members
  words_none = record {
    sound = λ w h. absurd (both_ways false refl h);
    whole = λ w l p. absurd (omega arith);
  }

  -- The end mark alone.
  pub words_one : (x : WordSet) → ((w : ℕ) → has x w ≡ eqb w 0) → P 0 → WordsBelow P 1 x
  words_one x e p = record {
    sound = λ w h. subst P (sym (eqb-true w 0 (sym (e w) ∙ h))) p;
    whole = λ w l q. e w ∙ eq-eqb w 0 (omega arith);
  }

  -- One word more.
  pub words_more : (n : ℕ) (x y : WordSet) → ((w : ℕ) → has y w ≡ (has x w || (ltb n 64 && eqb w n))) → n < 64 → P n → WordsBelow P n x → WordsBelow P (n + 1) y
  words_more n x y e small p b = record {
    sound = λ w h.
        elim (or_cases (has x w) _ (sym (e w) ∙ h)) [
          | inl k ↦ b.sound w k
          | inr k ↦ subst P (sym (eqb-true w n (and_parts (ltb n 64) _ k).1)) p
        ];
    whole = λ w l q.
        elim (cases_eq w n) [
          | inl k ↦ e w ∙ or_right (has x w) _ (and_from (ltb n 64) _ (lt-ltb n 64 small) (eq-eqb w n k))
          | inr k ↦ e w ∙ or_left (has x w) _ (b.whole w (omega (arith, k)) q)
        ];
  }

  pub words_skip : (n : ℕ) (x : WordSet) → (P n → ⊥) → WordsBelow P n x → WordsBelow P (n + 1) x
  words_skip n x p b = record {
    sound = b.sound;
    whole = λ w l q.
        elim (cases_eq w n) [
          | inl k ↦ absurd (p (subst P k q))
          | inr k ↦ b.whole w (omega (arith, k)) q
        ];
  }

  -- No words from n on.
  pub words_all : (n m : ℕ) (x : WordSet) → ((w : ℕ) → P w → w < n) → WordsBelow P n x → WordsBelow P m x
  words_all n m x few b = record { sound = b.sound; whole = λ w l q. b.whole w (few w q) q }

module _ (P : ℕ → ℕ → Type 0) where
  pub sets_none : (l : List WordSet) → SetsOf P 0 l
  sets_none l = record { sound = λ i w h. absurd (omega arith); whole = λ i w h. absurd (omega arith) }

  -- One place more.
  pub sets_more : (l : List WordSet) (n m : ℕ) (x : WordSet) → n < length l → ((w : ℕ) → P n w → w < m) → SetsOf P n l → WordsBelow (P n) m x → SetsOf P (n + 1) (set l n x)
  sets_more l n m x inside few s b =
      let same = get_or-set_same l n x no_members inside in
      record {
        sound = λ i w h e.
            elim (cases_eq i n) [
              | inl k ↦ subst (λ j. P j w) (sym k) (b.sound w (subst (λ y. has y w ≡ true) same (subst (λ j. has (get_or (set l n x) j no_members) w ≡ true) k e)))
              | inr k ↦ s.sound i w (omega (arith, k)) (subst (λ y. has y w ≡ true) (get_or-set_other l n i x no_members k) e)
            ];
        whole = λ i w h p.
            elim (cases_eq i n) [
              | inl k ↦
                  (let q : P n w = subst (λ j. P j w) k p in
                  subst (λ j. has (get_or (set l n x) j no_members) w ≡ true) (sym k) (subst (λ y. has y w ≡ true) (sym same) (b.whole w (few w q) q)))
              | inr k ↦ subst (λ y. has y w ≡ true) (sym (get_or-set_other l n i x no_members k)) (s.whole i w (omega (arith, k)) p)
            ];
      }
