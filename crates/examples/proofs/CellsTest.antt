-- The actions that a certificate lists are exactly those that the cells hold.
use Rattle.std.proofs.Common.{◌≡◌, ℕ, ◌<◌, ◌≤◌, Bool, true, false, not, ◌&&◌, ◌||◌, eqb, ◌⊎◌, List, [], ◌∷◌, length, sym, refl, ap, ◌∙◌, subst, inl, inr, arith, Option, Some, None}
use Rattle.std.specs.List.{list_all}
use Rattle.grammar.proofs.Completion.{code_is_lem}
use Rattle.grammar.proofs.FormSteps.{terminal_is, is_terminal_lem, rule_is}
use mathlib.Core.Bool.{false≢true}
use Rattle.std.proofs.lemmas.Bool.{and_parts, eqb-true, eq-eqb, cases_lt}
use Rattle.grammar.specs.Grammar.{Grammar, IsRule, left_side, right_side}
use Rattle.grammar.specs.Derivation.{is_terminal, is_rule}
use Rattle.grammar.specs.Items.{code_is}
use Rattle.grammar.specs.Lookahead.{Lookahead}
use Rattle.grammar.specs.Cells.{Holds, may_shift, may_accept, may_reduce}
use Rattle.grammar.specs.declared.action.Action.{Action}
use Rattle.grammar.specs.declared.action.Action.TheVariants.{Shift, Accept, Reduce}
use Rattle.examples.specs.Tables.{same_pair, lookup, items_of, automaton}
use Rattle.examples.proofs.Tests.{implies, all_at, Equality, same_both, both, pairs, member, mem_from, mem_range, conj, passed}
use Rattle.examples.proofs.Codes.{rule_numbers, rule_number}
use Rattle.examples.proofs.Lookup.{mem_lookup, beyond}
use Rattle.examples.proofs.ItemsTest.{set_of}
use Rattle.examples.proofs.StatesTest.{state_numbers}
use Rattle.examples.proofs.Walk.{walk, leads_to}
use Rattle.examples.proofs.GatherTest.{Entry, entries}
use Rattle.examples.proofs.Certificate.{Certificate}
use Rattle.examples.proofs.LookaheadTest.{in_lookahead, lookahead_tests, follows_to, lookahead_from}

abbrev pub same_action : Action → Action → Bool
same_action (Shift t) (Shift u) = eqb t u
same_action (Shift t) Accept = false
same_action (Shift t) (Reduce q) = false
same_action Accept (Shift u) = false
same_action Accept Accept = true
same_action Accept (Reduce q) = false
same_action (Reduce r) (Shift u) = false
same_action (Reduce r) Accept = false
same_action (Reduce r) (Reduce q) = eqb r q

same_sound : (a b : Action) → same_action a b ≡ true → a ≡ b
same_sound (Shift t) (Shift u) h = ap Shift (eqb-true t u h)
same_sound (Shift t) Accept h = absurd (false≢true h)
same_sound (Shift t) (Reduce q) h = absurd (false≢true h)
same_sound Accept (Shift u) h = absurd (false≢true h)
same_sound Accept Accept h = refl
same_sound Accept (Reduce q) h = absurd (false≢true h)
same_sound (Reduce r) (Shift u) h = absurd (false≢true h)
same_sound (Reduce r) Accept h = absurd (false≢true h)
same_sound (Reduce r) (Reduce q) h = ap Reduce (eqb-true r q h)

same_reflexive : (a : Action) → same_action a a ≡ true
same_reflexive (Shift t) = eq-eqb t t refl
same_reflexive Accept = refl
same_reflexive (Reduce r) = eq-eqb r r refl

pub actions : Equality same_action
actions = record { sound = same_sound; reflexive = same_reflexive }

-- An action in the cell of a state and a word.
abbrev pub Placed : Type 0
Placed = (ℕ × ℕ) × Action

pub placed : Equality (same_both same_pair same_action)
placed = both pairs actions

abbrev pub has_action : List Placed → Placed → Bool
has_action l p = member (same_both same_pair same_action) l p

module _ (G : Grammar) (c : Certificate) where
  -- The action belongs in the cell.
  abbrev held_by : ℕ → ℕ → Action → Bool
  held_by s w (Shift u) = is_terminal G w && code_is (lookup c.tables.moves s w) u
  held_by s w Accept = eqb w 0 && set_of (items_of c.tables s) 0 1
  held_by s w (Reduce r) = is_rule G r && in_lookahead G c s r w

  -- What a move, an accepting state and a follow set with a rule put into cells is listed.
  abbrev shift_listed : Entry → Bool
  shift_listed m = not (is_terminal G m.0.1) || has_action c.tables.actions (m.0, Shift m.1)

  abbrev accept_listed : ℕ → Bool
  accept_listed s = not (set_of (items_of c.tables s) 0 1) || has_action c.tables.actions ((s, 0), Accept)

  abbrev reduce_at : ℕ → ℕ → Option ℕ → Bool
  reduce_at w r None = true
  reduce_at w r (Some s) = has_action c.tables.actions ((s, w), Reduce r)

  abbrev reduce_listed : Entry → ℕ → Bool
  reduce_listed e r = not (eqb e.0.1 (left_side G r)) || reduce_at e.1 r (walk (automaton c.tables) e.0.0 (right_side G r))

  unfoldable pub cells_tests : List Bool
  cells_tests =
      list_all (λ p. held_by p.0.0 p.0.1 p.1) c.tables.actions
      ∷ list_all shift_listed c.tables.moves
      ∷ list_all accept_listed (state_numbers c.tables)
      ∷ list_all (λ e. list_all (reduce_listed e) (rule_numbers G)) c.follows
      ∷ []

  module _ (looks : conj (lookahead_tests G c) ≡ true) (ok : conj cells_tests ≡ true) where
    held : (s w : ℕ) (a : Action) → held_by s w a ≡ true → Holds G (automaton c.tables) s w a
    held s w (Shift u) h = let p = and_parts (is_terminal G w) _ h in may_shift (terminal_is G w p.0) (code_is_lem _ u p.1)
    held s w Accept h = let p = and_parts (eqb w 0) _ h in subst (λ v. Holds G (automaton c.tables) s v Accept) (sym (eqb-true w 0 p.0)) (may_accept p.1)
    held s w (Reduce r) h = let p = and_parts (is_rule G r) _ h in may_reduce (rule_is G r p.0) (lookahead_from G c looks s r w p.1)

    pub holds_from : (s w : ℕ) (a : Action) → has_action c.tables.actions ((s, w), a) ≡ true → Holds G (automaton c.tables) s w a
    unfolding cells_tests
    holds_from s w a h = held s w a (all_at (λ p. held_by p.0.0 p.0.1 p.1) c.tables.actions (passed cells_tests ok 0) (mem_from placed c.tables.actions ((s, w), a) h))

    accepts : (s : ℕ) → set_of (items_of c.tables s) 0 1 ≡ true → has_action c.tables.actions ((s, 0), Accept) ≡ true
    unfolding cells_tests
    accepts s h = pick (cases_lt s (length c.tables.states))
      where
        pick : (s < length c.tables.states) ⊎ (length c.tables.states ≤ s) → has_action c.tables.actions ((s, 0), Accept) ≡ true
        pick (inl l) = implies (set_of (items_of c.tables s) 0 1) _ (all_at accept_listed (state_numbers c.tables) (passed cells_tests ok 2) (mem_range 0 (length c.tables.states) s (omega arith) (omega arith))) h
        pick (inr l) = absurd (false≢true (sym (ap (λ x. set_of x 0 1) (beyond c.tables.states s l)) ∙ h))

    reduces : (s w r : ℕ) → IsRule G r → Lookahead G (automaton c.tables) s r w → has_action c.tables.actions ((s, w), Reduce r) ≡ true
    unfolding cells_tests
    reduces s w r i l =
        let e : Entry = ((l.back, left_side G r), w) in
        let m = mem_from entries c.follows e (follows_to G c looks (l.back, left_side G r) w l.follow) in
        let k = implies (eqb (left_side G r) (left_side G r)) _ (all_at (reduce_listed e) (rule_numbers G) (all_at (λ e. list_all (reduce_listed e) (rule_numbers G)) c.follows (passed cells_tests ok 3) m) (rule_number G i)) (eq-eqb (left_side G r) (left_side G r) refl) in
        subst (λ o. reduce_at w r o ≡ true) (leads_to (automaton c.tables) l.leads) k

    pub holds_to : (s w : ℕ) (a : Action) → Holds G (automaton c.tables) s w a → has_action c.tables.actions ((s, w), a) ≡ true
    unfolding cells_tests
    holds_to s w a (may_shift {t = u} i g) = implies (is_terminal G w) _ (all_at shift_listed c.tables.moves (passed cells_tests ok 1) (mem_lookup c.tables.moves s w u g)) (is_terminal_lem G w i)
    holds_to s w a (may_accept h) = accepts s h
    holds_to s w a (may_reduce {r = r} i l) = reduces s w r i l
