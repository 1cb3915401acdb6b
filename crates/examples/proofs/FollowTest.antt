-- Read sets and follow sets in lists that pass the test are exact.
use Rattle.std.proofs.Common.{◌≡◌, ℕ, Bool, true, ◌&&◌, eqb, List, [], ◌∷◌, ◌++◌, refl, subst}
use Rattle.std.specs.List.{list_any, list_all}
use Rattle.grammar.proofs.Completion.{code_is_lem, is_code}
use mathlib.Core.List.{Memᴰ}
use Rattle.std.proofs.lemmas.Bool.{and_parts, and_from, eqb-true, eq-eqb}
use Rattle.grammar.specs.Grammar.{Grammar, left_side, right_side}
use Rattle.grammar.specs.Items.{code_is}
use Rattle.grammar.specs.Lookahead.{Transition, Reads, Includes, Read, Follow}
use Rattle.examples.specs.Tables.{Tables, lookup, automaton}
use Rattle.examples.proofs.Tests.{any_at, any_from, member, conj, passed, from_parts}
use Rattle.examples.proofs.Codes.{rule_numbers, is_rule_lem, rule_number}
use Rattle.examples.proofs.Lookup.{mem_lookup}
use Rattle.examples.proofs.NullableTest.{nullable_tests, nullable_from, nullable_to, all_nullable_from, all_nullable_to}
use Rattle.examples.proofs.Walk.{walk, leads_to, leads_from, any_cut, cut_at, cut_from}
use Rattle.examples.proofs.GatherTest.{Entry, has, gather_tests, gathered_from, gathered_to}
use Rattle.examples.proofs.DirectTest.{is_transition, transition_from, transition_to, direct_tests, direct_from, direct_to}

module _ (G : Grammar) (t : Tables) (nullable : List ℕ) where
  abbrev reads_tests : ℕ × ℕ → ℕ × ℕ → List Bool
  reads_tests x y = is_transition G t x ∷ is_transition G t y ∷ code_is (lookup t.moves x.0 x.1) y.0 ∷ member eqb nullable y.1 ∷ []

  -- The right side cut at the transition's nonterminal: what is behind is nullable, and what is before leads to the transition.
  abbrev cut_tests : ℕ × ℕ → ℕ × ℕ → List ℕ → ℕ → List ℕ → List Bool
  cut_tests x y β X γ = eqb X x.1 ∷ list_all (member eqb nullable) γ ∷ code_is (walk (automaton t) y.0 β) x.0 ∷ []

  abbrev rule_includes : ℕ × ℕ → ℕ × ℕ → ℕ → Bool
  rule_includes x y r = eqb (left_side G r) y.1 && any_cut (λ β X γ. conj (cut_tests x y β X γ)) (right_side G r)

  abbrev includes_tests : ℕ × ℕ → ℕ × ℕ → List Bool
  includes_tests x y = is_transition G t x ∷ is_transition G t y ∷ list_any (rule_includes x y) (rule_numbers G) ∷ []

  abbrev reads_to : ℕ × ℕ → ℕ × ℕ → Bool
  reads_to x y = conj (reads_tests x y)

  abbrev includes_to : ℕ × ℕ → ℕ × ℕ → Bool
  includes_to x y = conj (includes_tests x y)

  unfoldable pub follow_tests : List Entry → List Entry → List Entry → List Bool
  follow_tests directs reads follows = conj (gather_tests reads_to t.moves directs reads) ∷ conj (gather_tests includes_to t.moves reads follows) ∷ []

  starts : (x : ℕ × ℕ) → Transition G (automaton t) x → (u : ℕ) × Memᴰ (x, u) t.moves
  starts x τ = (τ.to, mem_lookup t.moves x.0 x.1 τ.to τ.move)

  module _ (exact : conj (nullable_tests G nullable) ≡ true) where
    reads_from : (x y : ℕ × ℕ) → reads_to x y ≡ true → Reads G (automaton t) x y
    reads_from x y h =
        let p = passed (reads_tests x y) h in
        record { from = transition_from G t x (p 0); to = transition_from G t y (p 1); move = code_is_lem _ y.0 (p 2); nullable = nullable_from G nullable exact y.1 (p 3) }

    reads_to_lem : (x y : ℕ × ℕ) → Reads G (automaton t) x y → reads_to x y ≡ true
    reads_to_lem x y r = from_parts (reads_tests x y) (transition_to G t x r.from, (transition_to G t y r.to, (is_code _ y.0 r.move, (nullable_to G nullable exact y.1 r.nullable, tt))))

    includes_from : (x y : ℕ × ℕ) → includes_to x y ≡ true → Includes G (automaton t) x y
    includes_from x y h =
        let p = passed (includes_tests x y) h in
        let z = any_at (rule_includes x y) (rule_numbers G) (p 2) in
        let q = and_parts (eqb (left_side G z.0) y.1) _ z.2 in
        let c = cut_at (right_side G z.0) (λ β X γ. conj (cut_tests x y β X γ)) q.1 in
        let k = passed (cut_tests x y c.before c.code c.after) c.passes in
        record {
          from = transition_from G t x (p 0);
          to = transition_from G t y (p 1);
          rule = z.0;
          before = c.before;
          after = c.after;
          is_rule = is_rule_lem G z.1;
          is_left = eqb-true (left_side G z.0) y.1 q.0;
          is_right = subst (λ X. right_side G z.0 ≡ c.before ++ X ∷ c.after) (eqb-true c.code x.1 (k 0)) c.is;
          nullables = all_nullable_from G nullable exact c.after (k 1);
          leads = leads_from (automaton t) c.before y.0 x.0 (code_is_lem _ x.0 (k 2));
        }

    includes_to_lem : (x y : ℕ × ℕ) → Includes G (automaton t) x y → includes_to x y ≡ true
    includes_to_lem x y i =
        let k : conj (cut_tests x y i.before x.1 i.after) ≡ true = from_parts (cut_tests x y i.before x.1 i.after) (eq-eqb x.1 x.1 refl, (all_nullable_to G nullable exact i.after i.nullables, (is_code _ x.0 (leads_to (automaton t) i.leads), tt))) in
        let c : any_cut (λ β X γ. conj (cut_tests x y β X γ)) (right_side G i.rule) ≡ true = rw i.is_right (cut_from i.before x.1 i.after (λ β X γ. conj (cut_tests x y β X γ)) k) in
        let r : rule_includes x y i.rule ≡ true = and_from (eqb (left_side G i.rule) y.1) _ (eq-eqb (left_side G i.rule) y.1 i.is_left) c in
        from_parts (includes_tests x y) (transition_to G t x i.from, (transition_to G t y i.to, (any_from (rule_includes x y) (rule_numbers G) (rule_number G i.is_rule) r, tt)))

    module _ (directs reads follows : List Entry) (direct : conj (direct_tests G t directs) ≡ true) (ok : conj (follow_tests directs reads follows) ≡ true) where
      pub read_from : (x : ℕ × ℕ) (w : ℕ) → has reads (x, w) ≡ true → Read G (automaton t) x w
      unfolding follow_tests
      read_from x w h =
          let g = gathered_from (Reads G (automaton t)) reads_to reads_from directs reads_to_lem t.moves reads (λ x y r. starts x r.from) (passed (follow_tests directs reads follows) ok 0) x w h in
          let k = direct_from G t directs direct g.last w g.seed in
          record { last = g.last; steps = g.steps; is_transition = k.transition; direct = k.direct }

      pub read_to : (x : ℕ × ℕ) (w : ℕ) → Read G (automaton t) x w → has reads (x, w) ≡ true
      unfolding follow_tests
      read_to x w r =
          gathered_to (Reads G (automaton t)) reads_to reads_from directs reads_to_lem t.moves reads (λ x y r. starts x r.from) (passed (follow_tests directs reads follows) ok 0) w r.steps
          (direct_to G t directs direct r.last w (record { transition = r.is_transition; direct = r.direct }))

      pub follow_from : (x : ℕ × ℕ) (w : ℕ) → has follows (x, w) ≡ true → Follow G (automaton t) x w
      unfolding follow_tests
      follow_from x w h =
          let g = gathered_from (Includes G (automaton t)) includes_to includes_from reads includes_to_lem t.moves follows (λ x y i. starts x i.from) (passed (follow_tests directs reads follows) ok 1) x w h in
          record { last = g.last; steps = g.steps; read = read_from g.last w g.seed }

      pub follow_to : (x : ℕ × ℕ) (w : ℕ) → Follow G (automaton t) x w → has follows (x, w) ≡ true
      unfolding follow_tests
      follow_to x w f =
          gathered_to (Includes G (automaton t)) includes_to includes_from reads includes_to_lem t.moves follows (λ x y i. starts x i.from) (passed (follow_tests directs reads follows) ok 1) w f.steps (read_to f.last w f.read)
