-- Steps of includes, listed in the order of states, rules and dots.
use Rattle.std.proofs.Common.{◌≡◌, ℕ, zero, suc, ◌+◌, ◌<◌, ◌≤◌, List, [], ◌∷◌, ◌++◌, map, length, get_or, take, drop, sym, refl, ap, ◌∙◌, subst, inl, inr, arith, take-append-drop, Some, slice_get}
use Rattle.std.proofs.lemmas.List.{take_at, drop_at, length-append}
use Rattle.std.proofs.lemmas.Bool.{cases_lt, cases_eq}
use Rattle.grammar.specs.Grammar.{Grammar, right_side}
use Rattle.grammar.specs.States.{Automaton}
use Rattle.grammar.specs.Trees.{AllNullable}
use Rattle.grammar.specs.Lookahead.{Leads, Transition, Includes}
use Rattle.grammar.proofs.Dots.{one_target}
use Rattle.grammar.proofs.ListParts.{get_elem_append, drop_suc, drop_at_code}
use Rattle.tables.specs.declared.rules.Rules.{Rules}
use Rattle.tables.specs.declared.states.States.{States}
use Rattle.tables.specs.declared.step.Step.{Step}
use Rattle.tables.specs.Arrays.{grammar_of, automaton}
use Rattle.tables.specs.Transitions.{transition_at, place_of}
use Rattle.tables.specs.IncludeSteps.{sources, targets, IncludesBy, Listed, order, StepsUpto, AllSteps}
use Rattle.tables.proofs.RuleArrays.{rule_high}
use Rattle.tables.proofs.RuleCodes.{dot_inside}
use Rattle.tables.proofs.Transitions.{at_place_of, within}
use Rattle.tables.proofs.Walks.{leads_once}

-- A list, parted at a code.
split_at_code : (l : List ℕ) (d X : ℕ) → slice_get l d ≡ Some X → l ≡ take d l ++ X ∷ drop (suc d) l
split_at_code l d X e = sym (take-append-drop d l) ∙ ap (λ m. take d l ++ m) (drop_at_code l d X e)

-- A list with one step more at its end.
record Pushed (s : List Step) (t : Step) : Type 0 where
  count : length (s ++ t ∷ []) ≡ length s + 1
  source : get_or (sources (s ++ t ∷ [])) (length s) 0 ≡ t.source
  target : get_or (targets (s ++ t ∷ [])) (length s) 0 ≡ t.target
  sources : (e : ℕ) → e < length s → get_or (sources (s ++ t ∷ [])) e 0 ≡ get_or (sources s) e 0
  targets : (e : ℕ) → e < length s → get_or (targets (s ++ t ∷ [])) e 0 ≡ get_or (targets s) e 0

-- What is read of each step of a list, with one step more.
read_last : (f : Step → ℕ) (s : List Step) (t : Step) → get_or (map f (s ++ t ∷ [])) (length s) 0 ≡ f t
read_last f [] t = refl
read_last f (x ∷ s) t = read_last f s t

read_before : (f : Step → ℕ) (s : List Step) (t : Step) (e : ℕ) → e < length s → get_or (map f (s ++ t ∷ [])) e 0 ≡ get_or (map f s) e 0
read_before f [] t e h = absurd (omega arith)
read_before f (x ∷ s) t zero h = refl
read_before f (x ∷ s) t (suc e) h = read_before f s t e (omega arith)

pushed : (s : List Step) (t : Step) → Pushed s t
pushed s t = record {
  count = omega (arith, length-append s (t ∷ []));
  source = read_last (λ x. x.source) s t;
  target = read_last (λ x. x.target) s t;
  sources = read_before (λ x. x.source) s t;
  targets = read_before (λ x. x.target) s t;
}

module _ (R : Rules) (S : States) where
  abbrev G : Grammar
  G = grammar_of R

  abbrev A : Automaton
  A = automaton R S

  -- The numbers of a rule and a dot that give a step.
  pub record Bounds (r d : ℕ) : Type 0 where
    pub low : 1 ≤ r
    pub high : r ≤ R.count
    pub top : r ≤ 96
    pub inside : d < get_or R.size r 0
    pub dot : d < 8

  pub bounds : (q r d : ℕ) (x y : ℕ × ℕ) → IncludesBy G A q r d x y → Bounds r d
  bounds q r d x y b =
      let high : r ≤ R.count = rule_high R r b.is_rule in
      let inside = dot_inside R r d x.1 high b.code in
      record { low = b.is_rule.low; high = high; top = omega (arith, R.count96); inside = inside; dot = omega (arith, R.short r) }

  -- A step by a rule and a dot is one of includes, and each of includes is one by a rule and a dot.
  pub by_includes : (q r d : ℕ) (x y : ℕ × ℕ) → IncludesBy G A q r d x y → Includes G A x y
  by_includes q r d x y b = record {
    from = b.from;
    to = b.to;
    rule = r;
    before = take d (right_side G r);
    after = drop (suc d) (right_side G r);
    is_rule = b.is_rule;
    is_left = b.is_left;
    is_right = split_at_code (right_side G r) d x.1 b.code;
    nullables = b.nullables;
    leads = subst (λ p. Leads A p (take d (right_side G r)) x.0) (sym b.state) b.leads;
  }

  pub includes_by : (x y : ℕ × ℕ) (i : Includes G A x y) → IncludesBy G A y.0 i.rule (length i.before) x y
  includes_by x y i =
      let r : ℕ = i.rule in
      let α : List ℕ = i.before in
      let β : List ℕ = i.after in
      let X : ℕ = x.1 in
      let d = length α in
      let l = right_side G r in
      let front : take d l ≡ α = ap (take d) i.is_right ∙ take_at α (X ∷ β) d refl in
      let rest : drop d l ≡ X ∷ β = ap (drop d) i.is_right ∙ drop_at α (X ∷ β) d refl in
      record {
        from = i.from;
        to = i.to;
        state = refl;
        is_rule = i.is_rule;
        is_left = i.is_left;
        code = subst (λ m. slice_get m d ≡ Some X) (sym i.is_right) (get_elem_append α X β);
        nullables = subst (λ m. AllNullable G m) (sym (drop_suc d l rest)) i.nullables;
        leads = subst (λ m. Leads A y.0 m x.0) (sym front) i.leads;
      }

  -- A rule and a dot give one step at most in a state.
  pub by_once : (q r d : ℕ) (x y u v : ℕ × ℕ) → IncludesBy G A q r d x y → IncludesBy G A q r d u v → (place_of R x.0 x.1 ≡ place_of R u.0 u.1) × (place_of R y.0 y.1 ≡ place_of R v.0 v.1)
  by_once q r d x y u v b c =
      let p : x.0 ≡ u.0 = leads_once b.leads c.leads in
      let X : x.1 ≡ u.1 = one_target b.code c.code in
      let s : y.0 ≡ v.0 = b.state ∙ sym c.state in
      let Y : y.1 ≡ v.1 = sym b.is_left ∙ c.is_left in
      (ap (λ a. place_of R a x.1) p ∙ ap (λ a. place_of R u.0 a) X, ap (λ a. place_of R a y.1) s ∙ ap (λ a. place_of R v.0 a) Y)

  -- Where no step is in between.
  pub jump : (n m : ℕ) (s : List Step) → n ≤ m → ((q r d : ℕ) (x y : ℕ × ℕ) → IncludesBy G A q r d x y → n ≤ order q r d → order q r d < m → ⊥) → StepsUpto R S n s → StepsUpto R S m s
  jump n m s h none f = record {
    room = omega (arith, f.room);
    sound = f.sound;
    whole = λ q r d x y b l.
        elim (cases_lt (order q r d) n) [
          | inl k ↦ f.whole q r d x y b k
          | inr k ↦ absurd (none q r d x y b k l)
        ];
  }

  at_transition : (x : ℕ × ℕ) → Transition G A x → ◌≡◌ {A = ℕ × ℕ} (transition_at R (place_of R x.0 x.1)) x
  at_transition x t = let w = within R S x t in at_place_of R x.0 x.1 w.low w.high

  -- One step more.
  module _ (q r d : ℕ) (x y : ℕ × ℕ) (b : IncludesBy G A q r d x y) (s new : List Step) (t : Step) (added : new ≡ s ++ t ∷ []) (is_source : t.source ≡ place_of R x.0 x.1) (is_target : t.target ≡ place_of R y.0 y.1) (f : StepsUpto R S (order q r d) s) where
    abbrev s' : List Step
    s' = s ++ t ∷ []

    p : Pushed s t
    p = pushed s t

    still : (i j : ℕ) → Listed s i j → Listed s' i j
    still i j l = record {
      entry = l.entry;
      inside = omega (arith, l.inside, p.count);
      source = p.sources l.entry l.inside ∙ l.source;
      target = p.targets l.entry l.inside ∙ l.target;
    }

    newest : Listed s' (place_of R x.0 x.1) (place_of R y.0 y.1)
    newest = record { entry = length s; inside = omega (arith, p.count); source = p.source ∙ is_source; target = p.target ∙ is_target }

    abbrev Right : ℕ → ℕ → Type 0
    Right i j = Includes G A (transition_at R i) (transition_at R j)

    right : (e : ℕ) → e < (length s') → Right (get_or (sources s') e 0) (get_or (targets s') e 0)
    right e l =
        elim (cases_eq e (length s)) [
          | inl k ↦
              subst (λ c. Right (get_or (sources s') c 0) (get_or (targets s') c 0)) (sym k)
              (subst (λ i. Right i (get_or (targets s') (length s) 0)) (sym (p.source ∙ is_source))
              (subst (λ j. Right (place_of R x.0 x.1) j) (sym (p.target ∙ is_target))
              (subst (λ u. Includes G A u (transition_at R (place_of R y.0 y.1))) (sym (at_transition x b.from))
              (subst (λ v. Includes G A x v) (sym (at_transition y b.to)) (by_includes q r d x y b)))))
          | inr k ↦
              (let h : e < length s = omega (arith, p.count, k) in
              subst (λ i. Right i (get_or (targets s') e 0)) (sym (p.sources e h))
              (subst (λ j. Right (get_or (sources s) e 0) j) (sym (p.targets e h)) (f.sound e h)))
        ]

    here : (q' r' d' : ℕ) (u v : ℕ × ℕ) → IncludesBy G A q' r' d' u v → q' ≡ q → r' ≡ r → d' ≡ d → Listed s' (place_of R u.0 u.1) (place_of R v.0 v.1)
    here q' r' d' u v c eq er ed =
        let c' : IncludesBy G A q r d u v = subst (λ a. IncludesBy G A q r a u v) ed (subst (λ a. IncludesBy G A q a d' u v) er (subst (λ a. IncludesBy G A a r' d' u v) eq c)) in
        let e = by_once q r d x y u v b c' in
        subst (λ i. Listed s' i (place_of R v.0 v.1)) e.0 (subst (λ j. Listed s' (place_of R x.0 x.1) j) e.1 newest)

    one_more : StepsUpto R S (order q r (d + 1)) s'
    one_more = record {
      room = omega (arith, f.room, p.count);
      sound = right;
      whole = λ q' r' d' u v c l.
          let B = bounds q r d x y b in
          let C = bounds q' r' d' u v c in
          elim (cases_lt (order q' r' d') (order q r d)) [
            | inl k ↦ still _ _ (f.whole q' r' d' u v c k)
            | inr k ↦ here q' r' d' u v c (omega (arith, B.low, B.top, B.dot, C.low, C.top, C.dot)) (omega (arith, B.low, B.top, B.dot, C.low, C.top, C.dot)) (omega (arith, B.low, B.top, B.dot, C.low, C.top, C.dot))
          ];
    }

    pub push : StepsUpto R S (order q r (d + 1)) new
    push = subst (λ l. StepsUpto R S (order q r (d + 1)) l) (sym added) one_more

  -- The list is empty at first, and complete at the end.
  pub no_steps : (s : List Step) → length s ≡ 0 → StepsUpto R S (order 0 1 0) s
  no_steps s z = record {
    room = omega arith;
    sound = λ e l. absurd (omega arith);
    whole = λ q r d x y b l. absurd (omega (arith, (bounds q r d x y b).low));
  }

  pub all_steps : (s : List Step) → StepsUpto R S (order S.count 1 0) s → AllSteps R S s
  all_steps s f = record {
    few = omega (arith, f.room, S.few);
    sound = f.sound;
    whole = λ x y i.
        let b = includes_by x y i in
        let B = bounds y.0 i.rule (length i.before) x y b in
        f.whole y.0 i.rule (length i.before) x y b (omega (arith, (within R S y i.to).state, B.top, B.dot));
  }
