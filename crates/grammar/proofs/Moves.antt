-- The moves of the numbered states.
use Rattle.std.proofs.Common.{◌≡◌, ℕ, zero, suc, ◌<◌, true, subst, inl, inr, arith, Some}
use Rattle.std.proofs.lemmas.Bool.{cases_lt, both_ways}
use Rattle.grammar.specs.Grammar.{Grammar}
use Rattle.grammar.specs.Items.{Items, Completes, Move, Waits, origin}
use Rattle.grammar.specs.States.{Automaton, Numbered}

-- What it says that a state goes to another.
pub record Goes (G : Grammar) (n : ℕ) (A : Automaton) (s X t : ℕ) : Type 0 where
  pub from : s < n
  pub to : t < n
  pub waits : Waits G (A.has s) X
  pub move : Move G (A.has s) X (A.has t)

-- The set from which a state is completed.
pub record Kernel (G : Grammar) (S : Items) : Type 0 where
  pub items : Items
  pub completes : Completes G items S

module _ (G : Grammar) (n : ℕ) (A : Automaton) (N : Numbered G n A) where
  pub goes : (s X t : ℕ) → A.goto s X ≡ Some t → Goes G n A s X t
  goes s X t e =
      let o = N.only s X t e in
      let m = N.moves s X o.0 o.1 in
      let same : m.0 ≡ t = cc m.1 in
      record { from = o.0; to = subst (λ u. u < n) same m.2; waits = o.1; move = subst (λ u. Move G (A.has s) X (A.has u)) same m.3 }

  -- The states are below n: a number from n on has no item.
  pub is_state : (s r d : ℕ) → A.has s r d ≡ true → s < n
  is_state s r d h = elim (cases_lt s n) [ inl l ↦ l | inr g ↦ absurd (both_ways (A.has s r d) (N.outside s r d g) h) ]

  pub kernel : (s : ℕ) → s < n → Kernel G (A.has s)
  kernel zero l = record { items = origin; completes = N.begins }
  kernel (suc k) l =
      let m = N.met (suc k) (omega arith) l in record { items = _; completes = (goes m.state m.code (suc k) m.here).move }
