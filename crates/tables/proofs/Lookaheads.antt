-- Follow sets, added up where the right sides end, are lookaheads.
use Rattle.std.proofs.Common.{◌≡◌, ℕ, ◌+◌, ◌*◌, ◌<◌, ◌≤◌, true, ◌||◌, ◌⊎◌, List, [], length, get_or, set, replicate, is_some, None, sym, ap, ◌∙◌, subst, inl, inr, arith, Option, Some}
use Rattle.std.proofs.lemmas.List.{get_or-set_same, get_or-set_other, length-set, length-replicate, get_or-replicate}
use Rattle.std.proofs.lemmas.Bool.{cases_lt, cases_eq, or_cases, or_left, or_right, false≢true}
use Rattle.std.proofs.lemmas.Option.{none-some}
use Rattle.gather.specs.Members.{has, no_members, unite}
use Rattle.gather.specs.Sets.{has_unite}
use Rattle.gather.specs.declared.word_set.WordSet.{WordSet}
use Rattle.grammar.specs.Grammar.{Grammar, IsRule, left_side, right_side}
use Rattle.grammar.specs.States.{Automaton}
use Rattle.grammar.specs.Lookahead.{Leads, Transition, Follow, Lookahead}
use Rattle.grammar.proofs.Reductions.{follow_transition}
use Rattle.tables.specs.declared.rules.Rules.{Rules}
use Rattle.tables.specs.declared.states.States.{States}
use Rattle.tables.specs.Arrays.{grammar_of, automaton}
use Rattle.tables.specs.Lookaheads.{lookahead_at, LookaheadsUpto, Lookaheads}
use Rattle.tables.specs.Transitions.{transition_at, place_of, FollowAt}
use Rattle.tables.specs.WordSets.{SetsOf}
use Rattle.tables.proofs.RuleArrays.{is_rule_lem, rule_high, left_is}
use Rattle.tables.proofs.Transitions.{within, at_place_of, inside}
use Rattle.tables.proofs.Answered.{told_some}
use Rattle.tables.proofs.Gotos.{goto_moves}
use Rattle.tables.proofs.RuleWalks.{walk_inside}
use Rattle.tables.proofs.Walks.{leads_once}

module _ (R : Rules) (S : States) where
  abbrev G : Grammar
  G = grammar_of R

  abbrev A : Automaton
  A = automaton R S

  rule_top : (r : ℕ) → IsRule G r → r ≤ 96
  rule_top r i = omega (arith, rule_high R r i, R.count96)

  abbrev nothing : List (List WordSet)
  nothing = replicate 96 (replicate 97 no_members)

  nothing_at : (s : ℕ) → s < 96 → get_or nothing s [] ≡ replicate 97 no_members
  nothing_at s h = get_or-replicate 96 s (replicate 97 no_members) [] h

  nothing_yet : (s r w : ℕ) → s < 96 → r ≤ 96 → lookahead_at nothing s r w ≡ true → ⊥
  nothing_yet s r w h k e =
      false≢true
      (sym (ap (λ (m : List WordSet). has (get_or m r no_members) w) (nothing_at s h)
      ∙ ap (λ (x : WordSet). has x w)
      (get_or-replicate 97 r no_members no_members (omega arith))) ∙ e)

  pub upto_none : LookaheadsUpto R S 1 nothing
  upto_none = record {
    states = length-replicate {A = List WordSet} 96 (replicate 97 no_members);
    rules = λ s h. ap length (nothing_at s h) ∙ length-replicate {A = WordSet} 97 no_members;
    sound = λ s r w h i e. absurd (nothing_yet s r w h (rule_top r i) e);
    whole = λ p r s w h i. absurd (omega (arith, i.low));
  }

  -- Where a state and a rule are left out, as they have nothing to add.
  pub upto_skip : (n m : ℕ) (l : List (List WordSet))
      → n ≤ m
      → ((p r s w : ℕ)
      → n ≤ 97 * p + r
      → 97 * p + r < m
      → IsRule G r
      → Leads A p (right_side G r) s
      → Follow G A (p, left_side G r) w
      → ⊥)
      → LookaheadsUpto R S n l
      → LookaheadsUpto R S m l
  upto_skip n m l h nay u = record {
    states = u.states;
    rules = u.rules;
    sound = u.sound;
    whole = λ p r s w k i a f.
        elim (cases_lt (97 * p + r) n) [
          | inl b ↦ u.whole p r s w b i a f
          | inr b ↦ absurd (nay p r s w b k i a f)
        ];
  }

  -- What is complete.
  pub upto_all : (l : List (List WordSet))
      → LookaheadsUpto R S (97 * S.count + 1) l
      → Lookaheads R S l
  upto_all l u = record {
    sound = u.sound;
    whole = λ s r w i a.
        let t = within R S (a.back, left_side G r) (follow_transition a.follow) in
        u.whole a.back r s w (omega (arith, t.state, rule_top r i)) i a.leads a.follow;
  }

  -- No rules behind the last.
  pub last_rule : (q n : ℕ) (l : List (List WordSet))
      → R.count + 1 ≤ n
      → n ≤ R.count + 1
      → LookaheadsUpto R S (97 * q + n) l
      → LookaheadsUpto R S (97 * (q + 1) + 1) l
  last_rule q n l h k u =
      upto_skip (97 * q + n) (97 * (q + 1) + 1) l (omega (arith, R.count96)) (λ p r s w a b i t f.
      omega (arith, i.low, rule_high R r i, R.count96)) u

  -- A walk from a state that moves ends in a state.
  pub end_below : (q r s X : ℕ) (o : Option ℕ) → o ≡ A.goto q X → true ≡ is_some o → Leads A q (right_side G r) s → s < 96
  end_below q r s X o e h w = let t = told_some o (A.goto q X) e h in omega (arith, walk_inside R S (right_side G r) w (goto_moves R S q X t.0 (sym t.1)).from, S.few)

  module _ (q r : ℕ) (low : 1 ≤ r) (high : r ≤ R.count)
      (l : List (List WordSet)) (u : LookaheadsUpto R S (97 * q + r) l) where
    abbrev left : ℕ
    left = get_or R.left r 0

    abbrev codes : List ℕ
    codes = right_side G r

    top : r ≤ 96
    top = omega (arith, R.count96)

    this : IsRule G r
    this = is_rule_lem R r low high

    -- Nothing to add in the state q for the rule r.
    skip_this : ((s w : ℕ) → Leads A q codes s → Follow G A (q, left_side G r) w → ⊥) → LookaheadsUpto R S (97 * q + (r + 1)) l
    skip_this nay =
        upto_skip (97 * q + r) (97 * q + (r + 1)) l (omega arith) (λ p r' s w a b i t f.
        let t' = rule_top r' i in
        let ep : p ≡ q = omega arith in
        let er : r' ≡ r = omega arith in
        nay s w (subst (λ m. Leads A q (right_side G m) s) er (subst (λ m. Leads A m (right_side G r') s) ep t))
        (subst (λ m. Follow G A (q, left_side G m) w) er (subst (λ m. Follow G A (m, left_side G r') w) ep f))) u

    -- The state does not move by the left side.
    pub no_move : None ≡ A.goto q left → LookaheadsUpto R S (97 * q + (r + 1)) l
    no_move e = skip_this (λ s w a f. none-some _ (e ∙ subst (λ X. A.goto q X ≡ Some (follow_transition f).to) (sym (left_is R r this)) (follow_transition f).move))

    -- The right side leads nowhere.
    pub no_walk : ((s : ℕ) → Leads A q codes s → ⊥) → LookaheadsUpto R S (97 * q + (r + 1)) l
    no_walk nay = skip_this (λ s w a f. nay s a)

    -- The follow set at the place of the left side.
    module _ (follow : List WordSet) (F : SetsOf (FollowAt R S) 2304 follow) (t : Transition G A (q, left)) where
      at_left : ◌≡◌ {A = ℕ × ℕ} (transition_at R (place_of R q left)) (q, left_side G r)
      at_left = at_place_of R q left (R.lefts r low high) (R.leftsbelow r) ∙ ap {B = ℕ × ℕ} (λ (X : ℕ). (q, X)) (left_is R r this)

      abbrev here : WordSet
      here = get_or follow (place_of R q left) no_members

      here_follows : (w : ℕ) → has here w ≡ true → Follow G A (q, left_side G r) w
      here_follows w e = subst (λ x. Follow G A x w) at_left (F.sound (place_of R q left) w (inside R S (q, left) t) e)

      follows_here : (w : ℕ) → Follow G A (q, left_side G r) w → has here w ≡ true
      follows_here w f = F.whole (place_of R q left) w (inside R S (q, left) t) (subst (λ x. Follow G A x w) (sym at_left) f)

      module _ (s : ℕ) (a : Leads A q codes s) (below : s < 96)
          (y : WordSet) (e : y ≡ unite (get_or (get_or l s []) r no_members) here) where
        abbrev row : List WordSet
        row = get_or l s []

        joined : (w : ℕ) → has y w ≡ (lookahead_at l s r w || has here w)
        joined w = ap (λ (x : WordSet). has x w) e ∙ has_unite (get_or row r no_members) here w

        abbrev new : List (List WordSet)
        new = set l s (set row r y)

        row_new : get_or new s [] ≡ set row r y
        row_new = get_or-set_same l s (set row r y) [] (omega (arith, u.states))

        changed : (w : ℕ) → lookahead_at new s r w ≡ has y w
        changed w =
            ap (λ (m : List WordSet). has (get_or m r no_members) w) row_new
            ∙ ap (λ (x : WordSet). has x w)
            (get_or-set_same row r y no_members (omega (arith, u.rules s below, top)))

        -- This place, or another one.
        this_place : (s' r' : ℕ) → ((s' ≡ s) × (r' ≡ r)) ⊎ (s' ≡ s → r' ≡ r → ⊥)
        this_place s' r' =
            elim (cases_eq s' s) [
              | inl e ↦ elim (cases_eq r' r) [ inl f ↦ inl (e, f) | inr f ↦ inr (λ a b. f b) ]
              | inr e ↦ inr (λ a b. e a)
            ]

        kept : (s' r' w : ℕ) → (s' ≡ s → r' ≡ r → ⊥) → lookahead_at new s' r' w ≡ lookahead_at l s' r' w
        kept s' r' w apart =
            elim (cases_eq s' s) [
              | inl e ↦
                  subst (λ t. lookahead_at new t r' w ≡ lookahead_at l t r' w) (sym e)
                  (ap (λ (m : List WordSet). has (get_or m r' no_members) w) row_new
                  ∙ ap (λ (x : WordSet). has x w)
                  (get_or-set_other row r r' y no_members (apart e)))
              | inr e ↦
                  ap (λ (m : List WordSet). has (get_or m r' no_members) w)
                  (get_or-set_other l s s' (set row r y) [] e)
            ]

        -- The old words are still there.
        still : (s' r' w : ℕ) → lookahead_at l s' r' w ≡ true → lookahead_at new s' r' w ≡ true
        still s' r' w h =
            elim (this_place s' r') [
              | inl k ↦
                  subst (λ t. lookahead_at new t r' w ≡ true) (sym k.0) (subst (λ t. lookahead_at new s t w ≡ true) (sym k.1)
                  (changed w ∙ joined w
                  ∙ or_left _ (has here w)
                  (subst (λ t. lookahead_at l s t w ≡ true) k.1
                  (subst (λ t. lookahead_at l t r' w ≡ true) k.0 h))))
              | inr k ↦ kept s' r' w k ∙ h
            ]

        right : (s' r' w : ℕ) → s' < 96 → IsRule G r' → lookahead_at new s' r' w ≡ true → Lookahead G A s' r' w
        right s' r' w b i h =
            elim (this_place s' r') [
              | inl k ↦
                  (let h' : lookahead_at new s r w ≡ true = subst (λ t. lookahead_at new s t w ≡ true) k.1 (subst (λ t. lookahead_at new t r' w ≡ true) k.0 h) in
                  subst (λ j. Lookahead G A j r' w) (sym k.0) (subst (λ j. Lookahead G A s j w) (sym k.1)
                  (let either = sym (changed w ∙ joined w) ∙ h' in
                  elim (or_cases (lookahead_at l s r w) (has here w) either) [
                    | inl old ↦ u.sound s r w below this old
                    | inr add ↦ record { back = q; leads = a; follow = here_follows w add }
                  ])))
              | inr k ↦ u.sound s' r' w b i (sym (kept s' r' w k) ∙ h)
            ]

        rows_long : (t : ℕ) → t < 96 → length (get_or new t []) ≡ 97
        rows_long t h =
            elim (cases_eq t s) [
              | inl k ↦ ap (λ m. length (get_or new m [])) k ∙ ap length row_new ∙ length-set row r y ∙ u.rules s below
              | inr k ↦ ap length (get_or-set_other l s t (set row r y) [] k) ∙ u.rules t h
            ]

        pub add : LookaheadsUpto R S (97 * q + (r + 1)) new
        add = record {
          states = length-set l s (set row r y) ∙ u.states;
          rules = rows_long;
          sound = right;
          whole = λ p r' s' w b i v f.
              elim (cases_lt (97 * p + r') (97 * q + r)) [
                | inl k ↦ still s' r' w (u.whole p r' s' w k i v f)
                | inr k ↦
                    (let t' = rule_top r' i in
                    let t'' = top in
                    let ep : p ≡ q = omega arith in
                    let er : r' ≡ r = omega arith in
                    let v' : Leads A q codes s' = subst (λ m. Leads A q (right_side G m) s') er (subst (λ m. Leads A m (right_side G r') s') ep v) in
                    let f' : Follow G A (q, left_side G r) w = subst (λ m. Follow G A (q, left_side G m) w) er (subst (λ m. Follow G A (m, left_side G r') w) ep f) in
                    let es : s ≡ s' = leads_once a v' in
                    subst (λ j. lookahead_at new j r' w ≡ true) es (subst (λ j. lookahead_at new s j w ≡ true) (sym er)
                    (changed w ∙ joined w ∙ or_right _ (has here w) (follows_here w f'))))
              ];
        }
