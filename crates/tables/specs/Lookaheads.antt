-- Lookaheads by state and rule.
use Rattle.std.specs.Prelude.{◌≡◌, ℕ, ◌+◌, ◌*◌, ◌<◌, Bool, true, List, [], length, Some, None, slice_index_or, Option}
use Rattle.gather.specs.Members.{has, no_members}
use Rattle.gather.specs.declared.word_set.WordSet.{WordSet}
use Rattle.grammar.specs.Grammar.{IsRule, left_side, right_side}
use Rattle.grammar.specs.Lookahead.{Leads, Follow, Lookahead}
use Rattle.tables.specs.declared.rules.Rules.{Rules}
use Rattle.tables.specs.declared.states.States.{States}
use Rattle.tables.specs.Arrays.{grammar_of, automaton}

-- The words of a rule in a state.
abbrev pub lookahead_at : List (List WordSet) → ℕ → ℕ → ℕ → Bool
lookahead_at l s r w = has (slice_index_or (slice_index_or l s []) r no_members) w

-- The rule's right side leads from the state p to the state told, or to no state.
abbrev pub WalkTold : Rules → States → ℕ → ℕ → Option ℕ → Type 0
WalkTold R S p r None = (s : ℕ) → Leads (automaton R S) p (right_side (grammar_of R) r) s → ⊥
WalkTold R S p r (Some s) = Leads (automaton R S) p (right_side (grammar_of R) r) s

-- The sets have only lookaheads, and all those that come from the states and rules before n, by state and then by rule.
pub record LookaheadsUpto (R : Rules) (S : States) (n : ℕ) (l : List (List WordSet)) : Type 0 where
  pub states : length l ≡ 96
  pub rules : (s : ℕ) → s < 96 → length (slice_index_or l s []) ≡ 97
  pub sound : (s r w : ℕ) → s < 96 → IsRule (grammar_of R) r → lookahead_at l s r w ≡ true → Lookahead (grammar_of R) (automaton R S) s r w
  pub whole : (p r s w : ℕ) → 97 * p + r < n → IsRule (grammar_of R) r → Leads (automaton R S) p (right_side (grammar_of R) r) s → Follow (grammar_of R) (automaton R S) (p, left_side (grammar_of R) r) w → lookahead_at l s r w ≡ true

-- The sets have exactly the lookaheads of each rule in each state.
pub record Lookaheads (R : Rules) (S : States) (l : List (List WordSet)) : Type 0 where
  pub sound : (s r w : ℕ) → s < 96 → IsRule (grammar_of R) r → lookahead_at l s r w ≡ true → Lookahead (grammar_of R) (automaton R S) s r w
  pub whole : (s r w : ℕ) → IsRule (grammar_of R) r → Lookahead (grammar_of R) (automaton R S) s r w → lookahead_at l s r w ≡ true
