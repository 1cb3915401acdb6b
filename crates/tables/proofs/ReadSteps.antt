-- The steps between places told for reads are those of the relation.
use Rattle.std.proofs.Common.{◌≡◌, ℕ, ◌+◌, ◌*◌, ◌/◌, ◌%◌, ◌^◌, ◌<◌, ◌≤◌, Bool, true, false, List, [], map, length, get_or, is_some, Option, Some, None, sym, refl, ap, ◌∙◌, subst, arith}
use Rattle.std.specs.List.{slice_get, range_with_len}
use Rattle.std.proofs.lemmas.List.{length-map, get_or-map}
use Rattle.std.proofs.lemmas.List.FromFn.{length-range_with_len, get_or-range_with_len}
use Rattle.std.specs.Option.{option_map, unwrap_or}
use Rattle.std.proofs.lemmas.Option.{none-some, slice_get-map, slice_get_past, slice_get_read, slice_get_within}
use Rattle.bounded.specs.BoundedList.{listed}
use Rattle.bounded.specs.declared.bounded_list.BoundedList.{BoundedList}
use Rattle.std.proofs.lemmas.Bool.{and_parts, and_from}
use Rattle.gather.specs.Reach.{Step}
use Rattle.grammar.specs.Grammar.{Grammar}
use Rattle.grammar.specs.States.{Automaton}
use Rattle.grammar.specs.Lookahead.{Transition, Reads}
use Rattle.tables.specs.declared.rules.Rules.{Rules}
use Rattle.tables.specs.declared.states.States.{States}
use Rattle.tables.specs.Arrays.{grammar_of, automaton}
use Rattle.tables.specs.NullableMarks.{NullableMarks}
use Rattle.tables.specs.ReadSteps.{FoundBelow, passes, chosen, reads_behind, reads_from}
use Rattle.tables.specs.Transitions.{transition_at}
use Rattle.tables.proofs.Answered.{told_some}
use Rattle.tables.proofs.Filtered.{few_filtered, filtered, kept}
use Rattle.tables.proofs.Transitions.{at_number, at_place, transition, within}
use Rattle.tables.proofs.Gathering.{StepsOf}

module _ (R : Rules) (S : States) (null : List Bool) where
  abbrev A : Automaton
  A = automaton R S

  abbrev code : ℕ → ℕ
  code k = R.terminals + 1 + k

  abbrev numbers : List ℕ
  numbers = range_with_len 0 R.nonterminals

  is_some_lem : {o : Option ℕ} {t : ℕ} → Some t ≡ o → is_some o ≡ true
  is_some_lem e = ap is_some (sym e)

  -- The list of a place.
  from_some : (i t : ℕ) → Some t ≡ A.goto (transition_at R i).0 (transition_at R i).1 → reads_from R S null i ≡ map (λ k. 24 * t + k) (chosen R S null t)
  from_some i t e = ap (reads_behind R S null) (sym e)

  from_none : (i : ℕ) → None ≡ A.goto (transition_at R i).0 (transition_at R i).1 → reads_from R S null i ≡ []
  from_none i e = ap (reads_behind R S null) (sym e)

  -- What the code answers.
  pub next_some : (i t k : ℕ) (o : Option ℕ) → Some t ≡ A.goto (transition_at R i).0 (transition_at R i).1 → o ≡ slice_get (map (λ k. 24 * t + k) (chosen R S null t)) k → o ≡ slice_get (reads_from R S null i) k
  next_some i t k o e same = same ∙ ap (λ l. slice_get l k) (sym (from_some i t e))

  pub next_none : (i k : ℕ) → None ≡ A.goto (transition_at R i).0 (transition_at R i).1 → None ≡ slice_get (reads_from R S null i) k
  next_none i k e = sym (slice_get_past (reads_from R S null i) k (omega (arith, ap length (from_none i e))))

  pub next_found : (i t k : ℕ) (l : List ℕ) (o : Option ℕ) → Some t ≡ A.goto (transition_at R i).0 (transition_at R i).1 → l ≡ chosen R S null t → o ≡ slice_get l k → option_map (λ k. 24 * t + k) o ≡ slice_get (reads_from R S null i) k
  next_found i t k l o e all same =
      next_some i t k (option_map (λ k. 24 * t + k) o) e (ap (option_map (λ k. 24 * t + k)) (same ∙ ap (λ m. slice_get m k) all) ∙ sym (slice_get-map (λ k. 24 * t + k) (chosen R S null t) k))

  -- The numbers found for a state, read from their list.
  module _ (n : ℕ) (found : List (BoundedList ℕ 24)) (all : FoundBelow R S null n found) where
    pub found_within : (t : ℕ) → t < n → t < length found
    found_within t l = go (slice_get found t) refl (all t l)
      where
        go : (o : Option (BoundedList ℕ 24)) → slice_get found t ≡ o → option_map listed o ≡ Some (chosen R S null t) → t < length found
        go None e h = absurd (none-some _ h)
        go (Some x) e h = slice_get_within found t x e

    pub found_at : (t : ℕ) (x : BoundedList ℕ 24) → t < n → x ≡ get_or found t x → listed (get_or found t x) ≡ chosen R S null t
    found_at t x l e =
        let here = slice_get_read found (length found) t x refl (found_within t l) e in
        ap listed (sym e) ∙ ap (λ o. unwrap_or o (listed x)) (ap (option_map listed) (sym here) ∙ all t l)

  -- No list is long.
  few_chosen : (t : ℕ) → length (map (λ k. 24 * t + k) (chosen R S null t)) ≤ R.nonterminals
  few_chosen t = omega (arith, length-map (chosen R S null t) (λ k. 24 * t + k), few_filtered (passes R S null t) numbers, length-range_with_len 0 R.nonterminals)

  pub few : (i : ℕ) → length (reads_from R S null i) < 2 ^ 64
  few i = go (A.goto (transition_at R i).0 (transition_at R i).1)
    where
      go : (o : Option ℕ) → length (reads_behind R S null o) < 2 ^ 64
      go None = omega arith
      go (Some t) = omega (arith, few_chosen t, R.nonterminals24)

  module _ (N : NullableMarks (grammar_of R) null) where
    abbrev G : Grammar
    G = grammar_of R

    -- A place told is one of a nullable nonterminal that leads on.
    read_at : (i t k : ℕ) → Some t ≡ A.goto (transition_at R i).0 (transition_at R i).1 → k < R.nonterminals → passes R S null t k ≡ true → Reads G A (transition_at R i) (transition_at R (24 * t + k))
    read_at i t k e l passed =
        let p = and_parts (get_or null (code k) false) _ passed in
        let to = told_some (A.goto t (code k)) _ refl (sym p.1) in
        let at : ◌≡◌ {A = ℕ × ℕ} (t, code k) (transition_at R (24 * t + k)) = sym (at_number R t k (omega (arith, R.nonterminals24))) in
        record {
          from = at_place R S i t e;
          to = subst (λ x. Transition G A x) at (transition R S t (code k) to.0 (omega arith) to.1);
          move = sym e ∙ ap Some (ap (λ (x : ℕ × ℕ). x.0) at);
          nullable = N.sound (transition_at R (24 * t + k)).1 (subst (λ X. get_or null X false ≡ true) (ap (λ (x : ℕ × ℕ). x.1) at) p.0);
        }

    leads_back : (i j : ℕ) → Step 2304 (reads_from R S null) i j → (o : Option ℕ) → o ≡ A.goto (transition_at R i).0 (transition_at R i).1 → Reads G A (transition_at R i) (transition_at R j)
    leads_back i j s None e = absurd (omega (arith, s.listed, ap length (from_none i e)))
    leads_back i j s (Some t) e =
        let d : ℕ = s.nr in
        let l : d < length (chosen R S null t) = omega (arith, s.listed, ap length (from_some i t e), length-map (chosen R S null t) (λ k. 24 * t + k)) in
        let k : ℕ = get_or (chosen R S null t) d 0 in
        let f = filtered (passes R S null t) numbers d l in
        let nr : ℕ = f.at.nr in
        let small : nr < R.nonterminals = omega (arith, f.at.listed, length-range_with_len 0 R.nonterminals) in
        let number : nr ≡ k = omega (arith, get_or-range_with_len 0 R.nonterminals nr 0 small, f.at.there) in
        let here : 24 * t + k ≡ j = sym (ap (λ l. get_or l d 0) (from_some i t e) ∙ get_or-map (λ k. 24 * t + k) (chosen R S null t) d 0 0 l) ∙ s.there in
        subst (λ q. Reads G A (transition_at R i) (transition_at R q)) here (read_at i t k e (omega arith) f.passes)

    steps_back : (i j : ℕ) → j < 2304 → Reads G A (transition_at R i) (transition_at R j) → Step 2304 (reads_from R S null) i j
    steps_back i j l r =
        let t = j / 24 in
        let k = j % 24 in
        let w = within R S (transition_at R j) r.to in
        let b : k < R.nonterminals = omega (arith, w.high) in
        let number : get_or numbers k 0 ≡ k = omega (arith, get_or-range_with_len 0 R.nonterminals k 0 b) in
        let yes : passes R S null t k ≡ true = and_from (get_or null (code k) false) _ (N.whole (code k) r.nullable) (is_some_lem (sym r.to.move)) in
        let a = kept (passes R S null t) numbers k (omega (arith, length-range_with_len 0 R.nonterminals)) (subst (λ m. passes R S null t m ≡ true) (sym number) yes) in
        let e = from_some i t (sym r.move) in
        record {
          inside = l;
          nr = a.nr;
          listed = omega (arith, a.listed, ap length e, length-map (chosen R S null t) (λ k. 24 * t + k));
          there = ap (λ l. get_or l a.nr 0) e ∙ get_or-map (λ k. 24 * t + k) (chosen R S null t) a.nr 0 0 a.listed ∙ ap (λ m. 24 * t + m) (a.there ∙ number) ∙ (let e : 24 * (j / 24) + j % 24 ≡ j = omega arith in e);
        }

    pub reads_steps : StepsOf R S (Reads G A) (reads_from R S null)
    reads_steps = record {
      onto = λ i j h s. leads_back i j s (A.goto (transition_at R i).0 (transition_at R i).1) refl;
      back = λ i j h l r. steps_back i j l r;
      ends = λ x y r. r.to;
    }
