-- Transitions and their places.
use Rattle.std.proofs.Common.{◌≡◌, ℕ, ◌+◌, ◌-◌, ◌*◌, ◌<◌, ◌≤◌, sym, refl, ap, ◌∙◌, arith, Some}
use Rattle.grammar.specs.Lookahead.{Transition}
use Rattle.grammar.specs.Grammar.{Grammar}
use Rattle.grammar.specs.States.{Automaton}
use Rattle.tables.specs.declared.rules.Rules.{Rules}
use Rattle.tables.specs.declared.states.States.{States}
use Rattle.tables.specs.Arrays.{grammar_of, automaton}
use Rattle.tables.specs.Transitions.{transition_at, place_of}
use Rattle.tables.proofs.RuleArrays.{terminals_is, nonterminals_is}
use Rattle.tables.proofs.Gotos.{goto_moves}

pub same_pair : (a b c d : ℕ) → a ≡ c → b ≡ d → ◌≡◌ {A = ℕ × ℕ} (a, b) (c, d)
same_pair a b c d e f = ap {B = ℕ × ℕ} (λ (x : ℕ). (x, b)) e ∙ ap {B = ℕ × ℕ} (λ (y : ℕ). (c, y)) f

module _ (R : Rules) where
  -- A place from its state and its nonterminal.
  pub at_number : (p k : ℕ) → k < 24 → ◌≡◌ {A = ℕ × ℕ} (transition_at R (24 * p + k)) (p, R.terminals + 1 + k)
  at_number p k l = same_pair _ _ _ _ (omega arith) (omega arith)

  pub at_place_of : (p X : ℕ) → R.terminals < X → X ≤ R.terminals + R.nonterminals → ◌≡◌ {A = ℕ × ℕ} (transition_at R (place_of R p X)) (p, X)
  at_place_of p X low high =
      at_number p (X - R.terminals - 1) (omega (arith, R.nonterminals24))
      ∙ same_pair p (R.terminals + 1 + (X - R.terminals - 1)) p X refl (omega arith)

  pub place_below : (p X : ℕ) → p < 96 → X ≤ R.terminals + R.nonterminals → place_of R p X < 2304
  place_below p X l high = omega (arith, R.nonterminals24)

-- A place of a transition.
pub record Place (R : Rules) (x : ℕ × ℕ) : Type 0 where
  pub place : ℕ
  pub inside : place < 2304
  pub is : transition_at R place ≡ x

module _ (R : Rules) (S : States) where
  abbrev G : Grammar
  G = grammar_of R

  abbrev A : Automaton
  A = automaton R S

  -- The numbers of a transition.
  pub record Within (x : ℕ × ℕ) : Type 0 where
    pub state : x.0 < S.count
    pub low : R.terminals < x.1
    pub high : x.1 ≤ R.terminals + R.nonterminals

  pub within : (x : ℕ × ℕ) → Transition G A x → Within x
  within x t =
      let m = goto_moves R S x.0 x.1 t.to t.move in
      record { state = m.from; low = omega (arith, t.nonterminal.low, terminals_is R); high = m.high }

  pub inside : (x : ℕ × ℕ) → Transition G A x → place_of R x.0 x.1 < 2304
  inside x t = let w = within x t in place_below R x.0 x.1 (omega (arith, w.state, S.few)) w.high

  pub place : (x : ℕ × ℕ) → Transition G A x → Place R x
  place x t =
      let w = within x t in
      record {
        place = place_of R x.0 x.1;
        inside = inside x t;
        is = at_place_of R x.0 x.1 w.low w.high;
      }

  -- A move by a nonterminal is a transition.
  pub transition : (p X t : ℕ) → R.terminals < X → Some t ≡ A.goto p X → Transition G A (p, X)
  transition p X t low e =
      let m = goto_moves R S p X t (sym e) in
      record {
        nonterminal = record { low = omega (arith, terminals_is R); high = omega (arith, m.high, terminals_is R, nonterminals_is R) };
        to = t;
        move = sym e;
      }

  -- A place that leads on.
  pub at_place : (i t : ℕ) → Some t ≡ A.goto (transition_at R i).0 (transition_at R i).1 → Transition G A (transition_at R i)
  at_place i t e = transition (transition_at R i).0 (transition_at R i).1 t (omega arith) e

  pub behind_place : (i t : ℕ) → Some t ≡ A.goto (transition_at R i).0 (transition_at R i).1 → t < S.count
  behind_place i t e = (goto_moves R S (transition_at R i).0 (transition_at R i).1 t (sym e)).to
