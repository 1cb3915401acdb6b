-- Tables that pass the test have the numbered states.
use Rattle.std.proofs.Common.{◌≡◌, ℕ, zero, suc, ◌-◌, ◌<◌, ◌≤◌, Bool, true, not, ◌&&◌, ◌||◌, eqb, ltb, leb, ◌⊎◌, List, [], ◌∷◌, length, get_or, sym, ap, ◌∙◌, subst, inl, inr, arith, Option, Some, None, slice_get, is_some}
use Rattle.std.specs.List.{list_any, list_all}
use Rattle.grammar.proofs.Completion.{code_is_lem}
use mathlib.Core.Bool.{false≢true}
use mathlib.Core.List.{Memᴰ}
use Rattle.std.proofs.lemmas.Bool.{and_parts, and_from, or_cases, or_left, or_right, eqb-true, eq-eqb, ltb-true, lt-ltb, leb-true, both_ways, not-true}
use Rattle.grammar.specs.Grammar.{Grammar, right_side}
use Rattle.grammar.specs.Items.{Same, Completes, origin, behind, Move, Waits, code_is}
use Rattle.grammar.specs.States.{Earlier, Met, Numbered}
use Rattle.examples.specs.Tables.{Tables, same_pair, lookup, items_of, automaton}
use Rattle.examples.proofs.Tests.{range, implies, all_at, any_at, mem_range, member, pairs, mem_from, mem_to, conj, passed}
use Rattle.examples.proofs.Ordered.{ordered}
use Rattle.examples.proofs.Lookup.{mem_lookup, beyond}
use Rattle.examples.proofs.Codes.{found_from}
use Rattle.examples.proofs.ItemsTest.{set_of, dot_before, comes_in, closed_items, completes}

abbrev pub state_numbers : Tables → List ℕ
state_numbers t = range 0 (length t.states)

-- Some item is in one list alone.
abbrev differ : List (ℕ × ℕ) → List (ℕ × ℕ) → Bool
differ l m = list_any (λ x. not (member same_pair m x)) l || list_any (λ x. not (member same_pair l x)) m

-- The code behind the dot, if there is one, leads somewhere.
abbrev leads_on : Tables → ℕ → Option ℕ → Bool
leads_on t s None = true
leads_on t s (Some X) = is_some (lookup t.moves s X)

-- Every item of the state with a code behind its dot has a move by it.
abbrev moves_on : Grammar → Tables → ℕ → Bool
moves_on G t s = list_all (λ x. leads_on t s (slice_get (right_side G x.0) x.1)) (items_of t s)

abbrev apart_from : Tables → ℕ → ℕ → Bool
apart_from t s u = eqb s u || differ (items_of t s) (items_of t u)

-- The item with its dot put behind the code is in the list.
abbrev carried : Grammar → ℕ → List (ℕ × ℕ) → ℕ × ℕ → Bool
carried G X l x = not (dot_before G X x) || set_of l x.0 (suc x.1)

-- A move goes from a listed state, by a code that some item has behind its dot, to the set completed behind it.
abbrev move_tests : Grammar → Tables → (ℕ × ℕ) × ℕ → List Bool
move_tests G t m =
    ltb m.0.0 (length t.states)
    ∷ ltb m.1 (length t.states)
    ∷ list_any (dot_before G m.0.1) (items_of t m.0.0)
    ∷ list_all (carried G m.0.1 (items_of t m.1)) (items_of t m.0.0)
    ∷ ordered (comes_in G (behind G (set_of (items_of t m.0.0)) m.0.1)) [] (items_of t m.1)
    ∷ []

-- Lower states first, and lower codes first in each.
abbrev pub earlier : ℕ × ℕ → ℕ × ℕ → Bool
earlier x y = ltb x.0 y.0 || eqb x.0 y.0 && ltb x.1 y.1

pub earlier_to : (x y : ℕ × ℕ) → Earlier x.0 x.1 y.0 y.1 → earlier x y ≡ true
earlier_to x y (inl h) = or_left (ltb x.0 y.0) _ (lt-ltb x.0 y.0 h)
earlier_to x y (inr h) = or_right (ltb x.0 y.0) _ (and_from (eqb x.0 y.0) (ltb x.1 y.1) (eq-eqb x.0 y.0 h.0) (lt-ltb x.1 y.1 h.1))

-- State u is new at the move m.
abbrev new_tests : Tables → ℕ → (ℕ × ℕ) × ℕ → List Bool
new_tests t u m =
    ltb m.0.0 u
    ∷ code_is (lookup t.moves m.0.0 m.0.1) u
    ∷ list_all (λ e. not (earlier e.0 m.0) || ltb e.1 u) t.moves
    ∷ []

-- State 0 completes the origin, all states are closed and differ, every move is right, and every other state is new at some move.
unfoldable pub states_tests : Grammar → Tables → List Bool
states_tests G t =
    leb 1 (length t.states)
    ∷ set_of (items_of t 0) 0 0
    ∷ ordered (comes_in G origin) [] (items_of t 0)
    ∷ list_all (λ s. closed_items G (items_of t s)) (state_numbers t)
    ∷ list_all (λ s. list_all (apart_from t s) (state_numbers t)) (state_numbers t)
    ∷ list_all (moves_on G t) (state_numbers t)
    ∷ list_all (λ m. conj (move_tests G t m)) t.moves
    ∷ list_all (λ u. list_any (λ m. conj (new_tests t u m)) t.moves) (range 1 (length t.states - 1))
    ∷ []

differ_not : (l m : List (ℕ × ℕ)) → Same (set_of l) (set_of m) → differ l m ≡ true → ⊥
differ_not l m s h = pick (or_cases (list_any (λ x. not (member same_pair m x)) l) (list_any (λ x. not (member same_pair l x)) m) h)
  where
    pick : (list_any (λ x. not (member same_pair m x)) l ≡ true) ⊎ (list_any (λ x. not (member same_pair l x)) m ≡ true) → ⊥
    pick (inl e) = let z = any_at (λ x. not (member same_pair m x)) l e in both_ways (member same_pair m z.0) (not-true (member same_pair m z.0) z.2) (sym (s z.0.0 z.0.1) ∙ mem_to pairs l z.1)
    pick (inr e) = let z = any_at (λ x. not (member same_pair l x)) m e in both_ways (member same_pair l z.0) (not-true (member same_pair l z.0) z.2) (s z.0.0 z.0.1 ∙ mem_to pairs m z.1)

module _ (G : Grammar) (t : Tables) (ok : conj (states_tests G t) ≡ true) where
  state_number : (s : ℕ) → s < length t.states → Memᴰ s (state_numbers t)
  state_number s h = mem_range 0 (length t.states) s (omega arith) (omega arith)

  closed : (s : ℕ) → s < length t.states → closed_items G (items_of t s) ≡ true
  unfolding states_tests
  closed s h = all_at (λ s. closed_items G (items_of t s)) (state_numbers t) (passed (states_tests G t) ok 3) (state_number s h)

  begins : Completes G origin (set_of (items_of t 0))
  unfolding states_tests
  begins =
      let p = passed (states_tests G t) ok in
      completes G origin (items_of t 0) (closed 0 (leb-true 1 (length t.states) (p 0)))
      (λ r d h. let q = and_parts (eqb r 0) (eqb d 0) h in rw (eqb-true r 0 q.0, eqb-true d 0 q.1) (p 1)) (p 2)

  apart : (s u : ℕ) → s < length t.states → u < length t.states → Same (set_of (items_of t s)) (set_of (items_of t u)) → s ≡ u
  unfolding states_tests
  apart s u h k e = pick (or_cases (eqb s u) (differ (items_of t s) (items_of t u)) (all_at (apart_from t s) (state_numbers t) (all_at (λ s. list_all (apart_from t s) (state_numbers t)) (state_numbers t) (passed (states_tests G t) ok 4) (state_number s h)) (state_number u k)))
    where
      pick : (eqb s u ≡ true) ⊎ (differ (items_of t s) (items_of t u) ≡ true) → s ≡ u
      pick (inl a) = eqb-true s u a
      pick (inr a) = absurd (differ_not (items_of t s) (items_of t u) e a)

  move_passed : (s X u : ℕ) → lookup t.moves s X ≡ Some u → (i : ℕ) → get_or (move_tests G t ((s, X), u)) i true ≡ true
  unfolding states_tests
  move_passed s X u g = passed (move_tests G t ((s, X), u)) (all_at (λ m. conj (move_tests G t m)) t.moves (passed (states_tests G t) ok 6) (mem_lookup t.moves s X u g))

  carries : (s X u : ℕ) → lookup t.moves s X ≡ Some u → (r d : ℕ) → behind G (set_of (items_of t s)) X r d ≡ true → set_of (items_of t u) r d ≡ true
  carries s X u g r zero h = absurd (false≢true h)
  carries s X u g r (suc d) h =
      let p = and_parts (set_of (items_of t s) r d) (code_is (slice_get (right_side G r) d) X) h in
      implies (dot_before G X (r, d)) (set_of (items_of t u) r (suc d)) (all_at (carried G X (items_of t u)) (items_of t s) (move_passed s X u g 3) (mem_from pairs (items_of t s) (r, d) p.0)) p.1

  is_move : (s X u : ℕ) → lookup t.moves s X ≡ Some u → Move G (set_of (items_of t s)) X (set_of (items_of t u))
  is_move s X u g =
      let p = move_passed s X u g in
      completes G (behind G (set_of (items_of t s)) X) (items_of t u) (closed u (ltb-true u (length t.states) (p 1))) (carries s X u g) (p 4)

  waits : (s X u : ℕ) → lookup t.moves s X ≡ Some u → Waits G (set_of (items_of t s)) X
  waits s X u g =
      let z = any_at (dot_before G X) (items_of t s) (move_passed s X u g 2) in
      record { rule = z.0.0; dot = z.0.1; has = mem_to pairs (items_of t s) z.1; code = code_is_lem _ X z.2 }

  leads_on_lem : (s X : ℕ) → s < length t.states → Waits G (set_of (items_of t s)) X → (u : ℕ) × (lookup t.moves s X ≡ Some u)
  unfolding states_tests
  leads_on_lem s X h w =
      let k = all_at (λ x. leads_on t s (slice_get (right_side G x.0) x.1)) (items_of t s) (all_at (moves_on G t) (state_numbers t) (passed (states_tests G t) ok 5) (state_number s h)) (mem_from pairs (items_of t s) (w.rule, w.dot) w.has) in
      found_from (lookup t.moves s X) (subst (λ o. leads_on t s o ≡ true) w.code k)

  met : (u : ℕ) → 1 ≤ u → u < length t.states → Met (automaton t) u
  unfolding states_tests
  met u h k =
      let z = any_at (λ m. conj (new_tests t u m)) t.moves (all_at (λ u. list_any (λ m. conj (new_tests t u m)) t.moves) (range 1 (length t.states - 1)) (passed (states_tests G t) ok 7) (mem_range 1 (length t.states - 1) u h (omega arith))) in
      let p = passed (new_tests t u z.0) z.2 in
      record {
        state = z.0.0.0;
        code = z.0.0.1;
        lower = ltb-true z.0.0.0 u (p 0);
        here = code_is_lem _ u (p 1);
        before = λ q X v e g. ltb-true v u (implies (earlier (q, X) z.0.0) (ltb v u) (all_at (λ e. not (earlier e.0 z.0.0) || ltb e.1 u) t.moves (p 2) (mem_lookup t.moves q X v g)) (earlier_to (q, X) z.0.0 e));
      }

  pub numbered : Numbered G (length t.states) (automaton t)
  unfolding states_tests
  numbered =
      record {
        some_state = leb-true 1 (length t.states) (passed (states_tests G t) ok 0);
        begins = begins;
        apart = apart;
        moves = λ s X h w. let z = leads_on_lem s X h w in (z.0, z.1, ltb-true z.0 (length t.states) (move_passed s X z.0 z.1 1), is_move s X z.0 z.1);
        only = λ s X u g. (ltb-true s (length t.states) (move_passed s X u g 0), waits s X u g);
        met = met;
        outside = λ s r d h. ap (λ l. set_of l r d) (beyond t.states s h);
      }
