-- The steps of includes, listed by the states, rules and dots that give them.
use Rattle.std.specs.Prelude.{◌≡◌, ℕ, suc, ◌+◌, ◌*◌, ◌<◌, ◌≤◌, take, drop, slice_index, slice_index_or, List, map, length}
use Rattle.grammar.specs.Grammar.{Grammar, IsRule, left_side, right_side}
use Rattle.grammar.specs.Items.{CodeAt}
use Rattle.grammar.specs.States.{Automaton}
use Rattle.grammar.specs.Trees.{AllNullable}
use Rattle.grammar.specs.Lookahead.{Leads, Transition, Includes}
use Rattle.tables.specs.declared.rules.Rules.{Rules}
use Rattle.tables.specs.declared.states.States.{States}
use Rattle.tables.specs.declared.step.Step.{Step}
use Rattle.tables.specs.Arrays.{grammar_of, automaton}
use Rattle.tables.specs.Transitions.{transition_at, place_of}

-- The right side of the rule is nullable from a dot on exactly if the dot is at e or behind.
pub record NullableFrom (G : Grammar) (r e : ℕ) : Type 0 where
  pub sound : (d : ℕ) → e ≤ d → AllNullable G (drop d (right_side G r))
  pub whole : (d : ℕ) → AllNullable G (drop d (right_side G r)) → e ≤ d

-- The rule r, with its dot at d, makes the transition x include y, whose state is q.
pub record IncludesBy (G : Grammar) (A : Automaton) (q r d : ℕ) (x y : ℕ × ℕ) : Type 0 where
  pub from : Transition G A x
  pub to : Transition G A y
  pub state : y.0 ≡ q
  pub is_rule : IsRule G r
  pub is_left : left_side G r ≡ y.1
  pub code : CodeAt G r d x.1
  pub nullables : AllNullable G (drop (suc d) (right_side G r))
  pub leads : Leads A q (take d (right_side G r)) x.0

-- The places that listed steps start from and lead to.
abbrev pub sources : List Step → List ℕ
sources steps = map (λ s. s.source) steps

abbrev pub targets : List Step → List ℕ
targets steps = map (λ s. s.target) steps

-- A step from the place i to the place j is listed.
pub record Listed (steps : List Step) (i j : ℕ) : Type 0 where
  pub entry : ℕ
  pub inside : entry < length steps
  pub source : slice_index_or (sources steps) entry 0 ≡ i
  pub target : slice_index_or (targets steps) entry 0 ≡ j

-- States, rules and dots in the order in which they are taken.
abbrev pub order : ℕ → ℕ → ℕ → ℕ
order q r d = 768 * q + 8 * r + d

-- All that is listed are steps of includes, and every one that comes before n is listed.
pub record StepsUpto (R : Rules) (S : States) (n : ℕ) (steps : List Step) : Type 0 where
  pub room : length steps + 8 ≤ n
  pub sound : (e : ℕ) → e < length steps → Includes (grammar_of R) (automaton R S) (transition_at R (slice_index (sources steps) e)) (transition_at R (slice_index (targets steps) e))
  pub whole : (q r d : ℕ) (x y : ℕ × ℕ) → IncludesBy (grammar_of R) (automaton R S) q r d x y → order q r d < n → Listed steps (place_of R x.0 x.1) (place_of R y.0 y.1)

-- All steps of includes are listed, and nothing else.
pub record AllSteps (R : Rules) (S : States) (steps : List Step) : Type 0 where
  pub few : length steps ≤ 73728
  pub sound : (e : ℕ) → e < length steps → Includes (grammar_of R) (automaton R S) (transition_at R (slice_index (sources steps) e)) (transition_at R (slice_index (targets steps) e))
  pub whole : (x y : ℕ × ℕ) → Includes (grammar_of R) (automaton R S) x y → Listed steps (place_of R x.0 x.1) (place_of R y.0 y.1)
