-- The lookahead that a certificate's follow sets give is exact.
use Rattle.std.proofs.Common.{◌≡◌, ℕ, Bool, true, eqb, List, [], ◌∷◌, refl, subst}
use Rattle.std.proofs.lemmas.Bool.{eqb-true, eq-eqb}
use Rattle.std.specs.List.{list_any}
use Rattle.grammar.proofs.Completion.{code_is_lem, is_code}
use Rattle.grammar.specs.Grammar.{Grammar, left_side, right_side}
use Rattle.grammar.specs.Items.{code_is}
use Rattle.grammar.specs.Lookahead.{Follow, Lookahead}
use Rattle.examples.specs.Tables.{automaton}
use Rattle.examples.proofs.Tests.{any_at, any_from, mem_from, mem_to, conj, passed, from_parts}
use Rattle.examples.proofs.NullableTest.{nullable_tests}
use Rattle.examples.proofs.Walk.{walk, leads_to, leads_from}
use Rattle.examples.proofs.GatherTest.{Entry, has, entries}
use Rattle.examples.proofs.DirectTest.{direct_tests}
use Rattle.examples.proofs.FollowTest.{follow_tests, follow_from, follow_to}
use Rattle.examples.proofs.Certificate.{Certificate}

module _ (G : Grammar) (c : Certificate) where
  -- The follow set that the word is of belongs to the left side in a state from which the right side leads here.
  abbrev pub entry_tests : ℕ → ℕ → ℕ → Entry → List Bool
  entry_tests s r w e = eqb e.0.1 (left_side G r) ∷ code_is (walk (automaton c.tables) e.0.0 (right_side G r)) s ∷ eqb e.1 w ∷ []

  abbrev pub in_lookahead : ℕ → ℕ → ℕ → Bool
  in_lookahead s r w = list_any (λ e. conj (entry_tests s r w e)) c.follows

  unfoldable pub lookahead_tests : List Bool
  lookahead_tests = conj (nullable_tests G c.nullable) ∷ conj (direct_tests G c.tables c.directs) ∷ conj (follow_tests G c.tables c.nullable c.directs c.reads c.follows) ∷ []

  module _ (ok : conj lookahead_tests ≡ true) where
    follows_from : (x : ℕ × ℕ) (w : ℕ) → has c.follows (x, w) ≡ true → Follow G (automaton c.tables) x w
    unfolding lookahead_tests
    follows_from = let p = passed lookahead_tests ok in follow_from G c.tables c.nullable (p 0) c.directs c.reads c.follows (p 1) (p 2)

    pub follows_to : (x : ℕ × ℕ) (w : ℕ) → Follow G (automaton c.tables) x w → has c.follows (x, w) ≡ true
    unfolding lookahead_tests
    follows_to = let p = passed lookahead_tests ok in follow_to G c.tables c.nullable (p 0) c.directs c.reads c.follows (p 1) (p 2)

    pub lookahead_from : (s r w : ℕ) → in_lookahead s r w ≡ true → Lookahead G (automaton c.tables) s r w
    lookahead_from s r w h =
        let z = any_at (λ e. conj (entry_tests s r w e)) c.follows h in
        let p = passed (entry_tests s r w z.0) z.2 in
        let f = follows_from z.0.0 z.0.1 (mem_to entries c.follows z.1) in
        record {
          back = z.0.0.0;
          leads = leads_from (automaton c.tables) (right_side G r) z.0.0.0 s (code_is_lem _ s (p 1));
          follow = subst (λ X. Follow G (automaton c.tables) (z.0.0.0, X) w) (eqb-true z.0.0.1 (left_side G r) (p 0)) (subst (Follow G (automaton c.tables) z.0.0) (eqb-true z.0.1 w (p 2)) f);
        }

    pub lookahead_to : (s r w : ℕ) → Lookahead G (automaton c.tables) s r w → in_lookahead s r w ≡ true
    lookahead_to s r w l =
        any_from (λ e. conj (entry_tests s r w e)) c.follows (mem_from entries c.follows ((l.back, left_side G r), w) (follows_to (l.back, left_side G r) w l.follow))
        (from_parts (entry_tests s r w ((l.back, left_side G r), w)) (eq-eqb (left_side G r) (left_side G r) refl, (is_code _ s (leads_to (automaton c.tables) l.leads), (eq-eqb w w refl, tt))))
