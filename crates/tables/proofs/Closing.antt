-- The steps of the loops that complete a set.
use Rattle.std.proofs.Common.{◌≡◌, ℕ, ◌+◌, ◌*◌, ◌/◌, ◌%◌, ◌<◌, ◌≤◌, Bool, true, false, List, length, get_or, set, replicate, sym, refl, ◌∙◌, subst, inl, inr, arith, length-set}
use lib.ListN.{length-replicate}
use Rattle.std.proofs.lemmas.Bool.{both_ways, cases_eq, cases_lt}
use Rattle.grammar.specs.ItemLists.{In, ClosureAt, CompletesAt, WaitsAt}
use Rattle.tables.specs.declared.rules.Rules.{Rules}
use Rattle.tables.specs.Closing.{Waiting, Ahead, Grown, Full, falses}
use Rattle.tables.proofs.TruthLists.{in_none, in_set, in_keeps, in_split, falses_set}

module _ (R : Rules) where
  pub code_below : (i : ℕ) → get_or R.right i 0 < 88
  code_below i = omega (arith, R.below i, R.terminals63, R.nonterminals24)

  pub left_below : (q : ℕ) → get_or R.left q 0 < 88
  left_below q = omega (arith, R.leftsbelow q, R.terminals63, R.nonterminals24)

  -- Items of other rules have no code behind the dot, nor has the last item of the last rule.
  pub code_item : (i : ℕ) → 1 ≤ get_or R.right i 0 → i < 9 * R.count + 8
  code_item i h =
      elim (cases_lt i (9 * R.count + 8)) [
        | inl l ↦ l
        | inr g ↦
            (let e : 9 * (i / 9) + i % 9 ≡ i = omega arith in
            let z : get_or R.size (i / 9) 0 ≤ i % 9 = elim (cases_lt R.count (i / 9)) [
              | inl k ↦ omega (arith, R.past (i / 9) k)
              | inr k ↦ omega (arith, R.short (i / 9))
            ] in
            absurd (omega (arith, subst (λ j. get_or R.right j 0 ≤ 0) e (R.ended (i / 9) (i % 9) z (omega arith)))))
      ]

  module _ (xs : List Bool) where
    -- The codes behind the dots of the items below n.
    pub record Seeded (n : ℕ) (ahead : List Bool) : Type 0 where
      pub size : length ahead ≡ 88
      pub from : (X : ℕ) → In ahead X → WaitsAt R.right xs X
      pub onto : (i : ℕ) → i < n → In xs i → In ahead (get_or R.right i 0)

    pub seeded_none : Seeded 0 (replicate 88 false)
    seeded_none =
        record { size = length-replicate 88 false; from = λ X h. absurd (in_none 88 X h); onto = λ i h. absurd (omega arith) }

    pub seeded_more : (n : ℕ) (ahead : List Bool) (code : ℕ) → In xs n → code ≡ get_or R.right n 0 → Seeded n ahead → Seeded (n + 1) (set ahead code true)
    seeded_more n ahead code has is s =
        record {
          size = length-set ahead code true ∙ s.size;
          from = λ X h. elim (in_split ahead code X h) [
            | inl e ↦ record { item = n; has = has; code = sym is ∙ sym e }
            | inr l ↦ s.from X l
          ];
          onto = λ i h t. elim (cases_eq i n) [
            | inl e ↦ subst (λ j. In (set ahead code true) (get_or R.right j 0)) (sym e) (subst (λ Y. In (set ahead code true) Y) is (in_set ahead code (omega (arith, code_below n, is, s.size))))
            | inr ne ↦ in_keeps ahead code _ (s.onto i (omega arith) t)
          ];
        }

    pub seeded_skip : (n : ℕ) (ahead : List Bool) → get_or xs n false ≡ false → Seeded n ahead → Seeded (n + 1) ahead
    seeded_skip n ahead out s =
        record {
          size = s.size;
          from = s.from;
          onto = λ i h t. elim (cases_eq i n) [
            | inl e ↦ absurd (both_ways _ out (subst (λ j. In xs j) e t))
            | inr ne ↦ s.onto i (omega arith) t
          ];
        }

    pub seeded_all : (n : ℕ) (ahead : List Bool) → 9 * R.count + 9 ≤ n → Seeded n ahead → Waiting R xs ahead
    seeded_all n ahead far s =
        record {
          from = s.from;
          onto = λ X low w. subst (λ Y. In ahead Y) w.code (s.onto w.item (omega (arith, code_item w.item (omega (arith, w.code)))) w.has);
        }

    pub grown_start : (ahead : List Bool) → Waiting R xs ahead → Grown R xs ahead
    grown_start ahead w =
        record { sound = λ X h. let v = w.from X h in record { item = v.item; has = ClosureAt.given v.has; code = v.code }; base = w.onto }

    pub grown_more : (ahead : List Bool) (q : ℕ) → 1 ≤ q → q ≤ R.count → In ahead (get_or R.left q 0) → Grown R xs ahead → Grown R xs (set ahead (get_or R.right (9 * q) 0) true)
    grown_more ahead q low high left g =
        record {
          sound = λ X h. elim (in_split ahead (get_or R.right (9 * q) 0) X h) [
            | inl e ↦ (let w = g.sound (get_or R.left q 0) left in record { item = 9 * q; has = ClosureAt.begun w.has low high w.code; code = sym e })
            | inr l ↦ g.sound X l
          ];
          base = λ X k w. in_keeps ahead (get_or R.right (9 * q) 0) X (g.base X k w);
        }

    -- A code behind a dot of the set completed is ahead, once nothing is to be added.
    grown_item : (ahead : List Bool) → Grown R xs ahead → Full R ahead (R.count + 1) → (i : ℕ) → ClosureAt R.left R.right R.count xs i → 1 ≤ get_or R.right i 0 → In ahead (get_or R.right i 0)
    grown_item ahead g f i (ClosureAt.given h) low = g.base (get_or R.right i 0) low (record { item = i; has = h; code = refl })
    grown_item ahead g f i (ClosureAt.begun {i = j} {q = q} k a b e) low =
        f q a (omega arith) (subst (λ X. In ahead X) e (grown_item ahead g f j k (omega (arith, R.lefts q a b))))

    pub grown_whole : (ahead : List Bool) → Grown R xs ahead → Full R ahead (R.count + 1) → (X : ℕ) → 1 ≤ X → Ahead R xs X → In ahead X
    grown_whole ahead g f X low a = subst (λ Y. In ahead Y) a.code (grown_item ahead g f a.item a.has (omega (arith, a.code)))

    -- The rules below n are in where their left sides are ahead.
    pub record Filled (n : ℕ) (ys : List Bool) : Type 0 where
      pub size : length ys ≡ 873
      pub keeps : (i : ℕ) → In xs i → In ys i
      pub sound : (i : ℕ) → In ys i → ClosureAt R.left R.right R.count xs i
      pub filled : (q : ℕ) → 1 ≤ q → q < n → Ahead R xs (get_or R.left q 0) → In ys (9 * q)

    pub filled_start : length xs ≡ 873 → Filled 1 xs
    filled_start size =
        record { size = size; keeps = λ i h. h; sound = λ i h. ClosureAt.given h; filled = λ q l h. absurd (omega arith) }

    pub filled_more : (n : ℕ) (ys : List Bool) → 1 ≤ n → n ≤ R.count → Filled n ys → Ahead R xs (get_or R.left n 0) → Filled (n + 1) (set ys (9 * n) true)
    filled_more n ys low high f a =
        record {
          size = length-set ys (9 * n) true ∙ f.size;
          keeps = λ i h. in_keeps ys (9 * n) i (f.keeps i h);
          sound = λ i h. elim (in_split ys (9 * n) i h) [
            | inl e ↦ subst (λ j. ClosureAt R.left R.right R.count xs j) (sym e) (ClosureAt.begun a.has low high a.code)
            | inr k ↦ f.sound i k
          ];
          filled = λ q l h b. elim (cases_eq q n) [
            | inl e ↦ subst (λ j. In (set ys (9 * n) true) (9 * j)) (sym e) (in_set ys (9 * n) (omega (arith, R.count96, f.size)))
            | inr ne ↦ in_keeps ys (9 * n) (9 * q) (f.filled q l (omega arith) b)
          ];
        }

    pub filled_skip : (n : ℕ) (ys : List Bool) → Filled n ys → (Ahead R xs (get_or R.left n 0) → ⊥) → Filled (n + 1) ys
    filled_skip n ys f nay =
        record {
          size = f.size;
          keeps = f.keeps;
          sound = f.sound;
          filled = λ q l h b. elim (cases_eq q n) [
            | inl e ↦ absurd (nay (subst (λ j. Ahead R xs (get_or R.left j 0)) e b))
            | inr ne ↦ f.filled q l (omega arith) b
          ];
        }

    pub filled_all : (n : ℕ) (ys : List Bool) → R.count + 1 ≤ n → Filled n ys → CompletesAt R.left R.right R.count xs ys
    filled_all n ys far f =
        record { sound = f.sound; whole = at }
      where
        at : (i : ℕ) → ClosureAt R.left R.right R.count xs i → In ys i
        at i (ClosureAt.given h) = f.keeps i h
        at i (ClosureAt.begun {i = j} {q = q} k low high e) = f.filled q low (omega arith) (record { item = j; has = k; code = e })

  -- One pass over the rules below n.
  pub record Swept (before : List Bool) (n : ℕ) (ahead : List Bool) (more : Bool) : Type 0 where
    pub size : length ahead ≡ 88
    pub grown : (xs : List Bool) → Grown R xs before → Grown R xs ahead
    pub upto : falses ahead ≤ falses before
    pub fewer : more ≡ true → falses ahead < falses before
    pub full : more ≡ false → Full R ahead n

  module _ (before : List Bool) where
    pub swept_more : (n : ℕ) (ahead : List Bool) (more : Bool) → 1 ≤ n → n ≤ R.count → Swept before n ahead more → In ahead (get_or R.left n 0) → get_or ahead (get_or R.right (9 * n) 0) false ≡ false → Swept before (n + 1) (set ahead (get_or R.right (9 * n) 0) true) true
    swept_more n ahead more low high s left out =
        let less = falses_set ahead (get_or R.right (9 * n) 0) (omega (arith, code_below (9 * n), s.size)) out in
        record {
          size = length-set ahead (get_or R.right (9 * n) 0) true ∙ s.size;
          grown = λ xs g. grown_more xs ahead n low high left (s.grown xs g);
          upto = omega (arith, s.upto);
          fewer = λ _. omega (arith, s.upto);
          full = λ e. absurd (both_ways true e refl);
        }

    pub swept_skip : (n : ℕ) (ahead : List Bool) (more : Bool) → Swept before n ahead more → (In ahead (get_or R.left n 0) → In ahead (get_or R.right (9 * n) 0)) → Swept before (n + 1) ahead more
    swept_skip n ahead more s here =
        record {
          size = s.size;
          grown = s.grown;
          upto = s.upto;
          fewer = s.fewer;
          full = λ e q l h k. elim (cases_eq q n) [
            | inl p ↦ subst (λ j. In ahead (get_or R.right (9 * j) 0)) (sym p) (here (subst (λ j. In ahead (get_or R.left j 0)) p k))
            | inr ne ↦ s.full e q l (omega arith) k
          ];
        }

    pub swept_at : (n : ℕ) {ahead onward : List Bool} {more again : Bool} → onward ≡ ahead → again ≡ more → Swept before n ahead more → Swept before n onward again
    swept_at n {ahead} {onward} {more} {again} p q s =
        subst (λ a. Swept before n a again) (sym p) (subst (λ m. Swept before n ahead m) (sym q) s)
