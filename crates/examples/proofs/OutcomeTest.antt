-- A certificate that passes the test says what building its grammar comes to.
use Rattle.std.proofs.Common.{◌≡◌, ℕ, Bool, true, not, ◌&&◌, ◌||◌, ltb, leb, ◌↔◌, List, [], ◌∷◌, length, sym, ap, ◌∙◌, Option, Some, None}
use Rattle.std.specs.List.{list_all}
use mathlib.Core.List.{Memᴰ}
use Rattle.std.proofs.lemmas.Bool.{and_from, leb-true, ltb-true, lt-ltb}
use Rattle.grammar.specs.Grammar.{Grammar, start, no_rule, left_side, right_side}
use Rattle.grammar.specs.Cells.{rank, Holds, FirstConflict, Exact}
use Rattle.grammar.specs.Lookahead.{Lookahead}
use Rattle.grammar.specs.Outcome.{Within, Sound, Outcome, conflicting, done}
use Rattle.grammar.specs.declared.action.Action.{Action}
use Rattle.examples.specs.Tables.{same_pair, automaton, cells}
use Rattle.examples.proofs.Tests.{implies, all_at, pairs, mem_from, mem_to, conj, passed}
use Rattle.examples.proofs.Lookup.{mem_lookup, lookup_of}
use Rattle.examples.proofs.LimitsTest.{limits_tests, in_range_ok, within, in_range_lem}
use Rattle.examples.proofs.UsefulTest.{useful_tests, none_useless}
use Rattle.examples.proofs.NullableTest.{nullable_tests}
use Rattle.examples.proofs.GatherTest.{gather_tests}
use Rattle.examples.proofs.DirectTest.{direct_tests}
use Rattle.examples.proofs.FollowTest.{follow_tests}
use Rattle.examples.proofs.StatesTest.{states_tests, numbered, earlier, earlier_to}
use Rattle.examples.proofs.Certificate.{Conflict, Certificate, outcome_by, outcome_of}
use Rattle.examples.proofs.LookaheadTest.{lookahead_tests, in_lookahead, lookahead_from, lookahead_to}
use Rattle.examples.proofs.CellsTest.{same_action, actions, Placed, placed, has_action, cells_tests, holds_from, holds_to}

-- Two actions of one cell are the same.
abbrev agree : Placed → Placed → Bool
agree p q = not (same_pair p.0 q.0) || same_action p.1 q.1

-- No cell has two actions.
abbrev all_agree : List Placed → Bool
all_agree l = list_all (λ p. list_all (agree p) l) l

-- An action of the conflict's cell that ranks before the second is the first.
abbrev least : Conflict → Placed → Bool
least k p = not (same_pair (k.state, k.word) p.0 && ltb (rank p.1) (rank k.second)) || same_action p.1 k.first

abbrev agree_before : Conflict → Placed → Placed → Bool
agree_before k p q = not (earlier p.0 (k.state, k.word)) || agree p q

abbrev conflict_tests : List Placed → Conflict → List Bool
conflict_tests l k =
    has_action l ((k.state, k.word), k.first)
    ∷ has_action l ((k.state, k.word), k.second)
    ∷ ltb (rank k.first) (rank k.second)
    ∷ list_all (least k) l
    ∷ list_all (λ p. list_all (agree_before k p) l) l
    ∷ []

-- No conflict, or the one named is the first.
unfoldable pub verdict_ok : List Placed → Option Conflict → Bool
verdict_ok l None = all_agree l
verdict_ok l (Some k) = conj (conflict_tests l k)

-- The groups of tests, in the order in which causes of refusal are tried.
unfoldable pub groups : Grammar → Certificate → List Bool
groups G c =
    conj (limits_tests G)
    ∷ in_range_ok G
    ∷ conj (useful_tests G c.productive c.used)
    ∷ leb (length c.tables.states) 96
    ∷ conj (states_tests G c.tables)
    ∷ conj (lookahead_tests G c)
    ∷ conj (cells_tests G c)
    ∷ verdict_ok c.tables.actions c.conflict
    ∷ []

module _ (G : Grammar) (c : Certificate) (ok : conj (groups G c) ≡ true) where
  ok_lookahead : conj (lookahead_tests G c) ≡ true
  unfolding groups
  ok_lookahead = passed (groups G c) ok 5

  ok_cells : conj (cells_tests G c) ≡ true
  unfolding groups
  ok_cells = passed (groups G c) ok 6

  mem_of : (s w : ℕ) (a : Action) → Holds G (automaton c.tables) s w a → Memᴰ ((s, w), a) c.tables.actions
  mem_of s w a h = mem_from placed c.tables.actions ((s, w), a) (holds_to G c ok_lookahead ok_cells s w a h)

  holds : (s w : ℕ) (a : Action) → has_action c.tables.actions ((s, w), a) ≡ true → Holds G (automaton c.tables) s w a
  holds = holds_from G c ok_lookahead ok_cells

  agreed : all_agree c.tables.actions ≡ true → (s w : ℕ) (a b : Action) → Holds G (automaton c.tables) s w a → Memᴰ ((s, w), b) c.tables.actions → b ≡ a
  agreed k s w a b h m =
      sym (actions.sound a b (implies (same_pair (s, w) (s, w)) (same_action a b) (all_at (agree ((s, w), a)) c.tables.actions (all_at (λ p. list_all (agree p) c.tables.actions) c.tables.actions k (mem_of s w a h)) m) (pairs.reflexive (s, w))))

  exact : all_agree c.tables.actions ≡ true → Exact G (automaton c.tables) (cells c.tables)
  exact k s w a = (
    λ e. holds s w a (mem_to placed c.tables.actions (mem_lookup c.tables.actions s w a e)),
    λ h. let z = lookup_of c.tables.actions s w a (mem_of s w a h) in z.1 ∙ ap Some (agreed k s w a z.0 h (mem_lookup c.tables.actions s w z.0 z.1)),
  )

  first_conflict : (k : Conflict) → conj (conflict_tests c.tables.actions k) ≡ true → FirstConflict G (automaton c.tables) k.state k.word k.first k.second
  first_conflict k h =
      let p = passed (conflict_tests c.tables.actions k) h in
      record {
        first = holds k.state k.word k.first (p 0);
        second = holds k.state k.word k.second (p 1);
        order = ltb-true (rank k.first) (rank k.second) (p 2);
        least = λ a g l.
            actions.sound a k.first
            (implies (same_pair (k.state, k.word) (k.state, k.word) && ltb (rank a) (rank k.second)) (same_action a k.first) (all_at (least k) c.tables.actions (p 3) (mem_of k.state k.word a g)) (and_from _ (ltb (rank a) (rank k.second)) (pairs.reflexive (k.state, k.word)) (lt-ltb (rank a) (rank k.second) l)));
        earlier = λ q v a b e g f.
            actions.sound a b
            (implies (same_pair (q, v) (q, v)) (same_action a b) (implies (earlier (q, v) (k.state, k.word)) (agree ((q, v), a) ((q, v), b)) (all_at (agree_before k ((q, v), a)) c.tables.actions (all_at (λ p. list_all (agree_before k p) c.tables.actions) c.tables.actions (p 4) (mem_of q v a g)) (mem_of q v b f)) (earlier_to (q, v) (k.state, k.word) e)) (pairs.reflexive (q, v)));
      }

  is_within : Within G
  unfolding groups
  is_within = within G (passed (groups G c) ok 0)

  is_sound : Sound G
  unfolding groups
  is_sound = let p = passed (groups G c) ok in record { in_range = in_range_lem G (p 1); useful = none_useless G c.productive c.used (p 2) }

  stands : (k : Option Conflict) → verdict_ok c.tables.actions k ≡ true → Outcome G (outcome_by c.tables k)
  unfolding groups verdict_ok
  stands None h = let p = passed (groups G c) ok in done is_within is_sound (leb-true (length c.tables.states) 96 (p 3)) (numbered G c.tables (p 4)) (exact h)
  stands (Some k) h = let p = passed (groups G c) ok in conflicting is_within is_sound (leb-true (length c.tables.states) 96 (p 3)) (numbered G c.tables (p 4)) (first_conflict k h)

  by_certificate : Outcome G (outcome_of c)
  unfolding groups
  by_certificate = stands c.conflict (passed (groups G c) ok 7)

-- The test as a whole: opened, it opens all its parts, so that it computes.
unfoldable pub passes : Grammar → Certificate → Bool
unfolding groups limits_tests in_range_ok useful_tests nullable_tests states_tests gather_tests direct_tests follow_tests lookahead_tests cells_tests verdict_ok start no_rule left_side right_side
passes G c = conj (groups G c)

-- What a passed test says: the outcome, and which words each lookahead has.
pub outcome : (G : Grammar) (c : Certificate) → passes G c ≡ true → Outcome G (outcome_of c)
unfolding passes
outcome G c ok = by_certificate G c ok

pub lookahead : (G : Grammar) (c : Certificate) → passes G c ≡ true → (s r w : ℕ) → Lookahead G (automaton c.tables) s r w ↔ (in_lookahead G c s r w ≡ true)
unfolding passes
lookahead G c ok s r w = (lookahead_to G c (ok_lookahead G c ok) s r w, lookahead_from G c (ok_lookahead G c ok) s r w)
