-- Direct words in a list that passes the test are exact.
use Rattle.std.proofs.Common.{◌≡◌, ℕ, Bool, true, false, not, ◌&&◌, ◌||◌, eqb, ◌⊎◌, List, [], ◌∷◌, sym, refl, subst, inl, inr, Option, Some, None, is_some}
use Rattle.std.specs.List.{list_all}
use Rattle.grammar.proofs.FormSteps.{terminal_is, is_terminal_lem}
use mathlib.Core.Bool.{false≢true}
use Rattle.std.proofs.lemmas.Bool.{and_parts, and_from, or_cases, eqb-true, eq-eqb}
use Rattle.grammar.specs.Grammar.{Grammar, IsNonterminal}
use Rattle.grammar.specs.Derivation.{is_terminal}
use Rattle.grammar.specs.Lookahead.{Transition, Direct, next_word, next_end}
use Rattle.examples.specs.Tables.{Tables, lookup, items_of, automaton}
use Rattle.examples.proofs.Tests.{implies, all_at, mem_from, conj, passed}
use Rattle.examples.proofs.Codes.{is_nonterminal, nonterminal_from, nonterminal_to, found_from, found_to}
use Rattle.examples.proofs.Lookup.{mem_lookup}
use Rattle.examples.proofs.ItemsTest.{set_of}
use Rattle.examples.proofs.GatherTest.{Entry, has, entries}

module _ (G : Grammar) (t : Tables) where
  abbrev pub is_transition : ℕ × ℕ → Bool
  is_transition x = is_nonterminal G x.1 && is_some (lookup t.moves x.0 x.1)

  pub transition_from : (x : ℕ × ℕ) → is_transition x ≡ true → Transition G (automaton t) x
  transition_from x h =
      let p = and_parts (is_nonterminal G x.1) (is_some (lookup t.moves x.0 x.1)) h in
      let z = found_from (lookup t.moves x.0 x.1) p.1 in
      record { nonterminal = nonterminal_from G x.1 p.0; to = z.0; move = z.1 }

  pub transition_to : (x : ℕ × ℕ) → Transition G (automaton t) x → is_transition x ≡ true
  transition_to x τ = and_from (is_nonterminal G x.1) (is_some (lookup t.moves x.0 x.1)) (nonterminal_to G x.1 τ.nonterminal) (found_to _ τ.to τ.move)

  -- The word is direct in the state.
  abbrev direct_in : ℕ → ℕ → Bool
  direct_in w u = is_terminal G w && is_some (lookup t.moves u w) || eqb w 0 && set_of (items_of t u) 0 1

  abbrev direct_behind : ℕ → Option ℕ → Bool
  direct_behind w None = false
  direct_behind w (Some u) = direct_in w u

  abbrev is_direct : Entry → Bool
  is_direct e = is_nonterminal G e.0.1 && direct_behind e.1 (lookup t.moves e.0.0 e.0.1)

  -- The direct words behind a move are listed.
  abbrev word_listed : List Entry → Entry → Entry → Bool
  word_listed l m k = not (eqb k.0.0 m.1 && is_terminal G k.0.1) || has l (m.0, k.0.1)

  abbrev all_direct : List Entry → Entry → Bool
  all_direct l m = not (is_nonterminal G m.0.1) || list_all (word_listed l m) t.moves && (not (set_of (items_of t m.1) 0 1) || has l (m.0, 0))

  unfoldable pub direct_tests : List Entry → List Bool
  direct_tests l = list_all is_direct l ∷ list_all (all_direct l) t.moves ∷ []

  pub record DirectBehind (x : ℕ × ℕ) (w : ℕ) : Type 0 where
    pub transition : Transition G (automaton t) x
    pub direct : Direct G (automaton t) transition.to w

  direct_in_lem : (w u : ℕ) → direct_in w u ≡ true → Direct G (automaton t) u w
  direct_in_lem w u h = pick (or_cases (is_terminal G w && is_some (lookup t.moves u w)) (eqb w 0 && set_of (items_of t u) 0 1) h)
    where
      pick : ((is_terminal G w && is_some (lookup t.moves u w)) ≡ true) ⊎ ((eqb w 0 && set_of (items_of t u) 0 1) ≡ true) → Direct G (automaton t) u w
      pick (inl e) = let p = and_parts (is_terminal G w) (is_some (lookup t.moves u w)) e in next_word (terminal_is G w p.0) (found_from _ p.1).1
      pick (inr e) = let p = and_parts (eqb w 0) (set_of (items_of t u) 0 1) e in subst (Direct G (automaton t) u) (sym (eqb-true w 0 p.0)) (next_end p.1)

  direct_behind_lem : (x : ℕ × ℕ) (w : ℕ) → IsNonterminal G x.1 → (o : Option ℕ) → lookup t.moves x.0 x.1 ≡ o → direct_behind w o ≡ true → DirectBehind x w
  direct_behind_lem x w i None e h = absurd (false≢true h)
  direct_behind_lem x w i (Some u) e h = record { transition = record { nonterminal = i; to = u; move = e }; direct = direct_in_lem w u h }

  module _ (l : List Entry) (ok : conj (direct_tests l) ≡ true) where
    pub direct_from : (x : ℕ × ℕ) (w : ℕ) → has l (x, w) ≡ true → DirectBehind x w
    unfolding direct_tests
    direct_from x w h =
        let p = and_parts (is_nonterminal G x.1) (direct_behind w (lookup t.moves x.0 x.1)) (all_at is_direct l (passed (direct_tests l) ok 0) (mem_from entries l (x, w) h)) in
        direct_behind_lem x w (nonterminal_from G x.1 p.0) (lookup t.moves x.0 x.1) refl p.1

    listed_behind : (x : ℕ × ℕ) (u : ℕ) → IsNonterminal G x.1 → lookup t.moves x.0 x.1 ≡ Some u → (list_all (word_listed l (x, u)) t.moves && (not (set_of (items_of t u) 0 1) || has l (x, 0))) ≡ true
    unfolding direct_tests
    listed_behind x u i g = implies (is_nonterminal G x.1) _ (all_at (all_direct l) t.moves (passed (direct_tests l) ok 1) (mem_lookup t.moves x.0 x.1 u g)) (nonterminal_to G x.1 i)

    direct_case : (x : ℕ × ℕ) (u w : ℕ) → IsNonterminal G x.1 → lookup t.moves x.0 x.1 ≡ Some u → Direct G (automaton t) u w → has l (x, w) ≡ true
    direct_case x u w i g (next_word {t = v} j h) =
        implies (eqb u u && is_terminal G w) (has l (x, w))
        (all_at (word_listed l (x, u)) t.moves (and_parts (list_all (word_listed l (x, u)) t.moves) _ (listed_behind x u i g)).0 (mem_lookup t.moves u w v h)) (and_from (eqb u u) (is_terminal G w) (eq-eqb u u refl) (is_terminal_lem G w j))
    direct_case x u w i g (next_end h) = implies (set_of (items_of t u) 0 1) (has l (x, 0)) (and_parts (list_all (word_listed l (x, u)) t.moves) _ (listed_behind x u i g)).1 h

    pub direct_to : (x : ℕ × ℕ) (w : ℕ) → DirectBehind x w → has l (x, w) ≡ true
    direct_to x w k = direct_case x k.transition.to w k.transition.nonterminal k.transition.move k.direct
