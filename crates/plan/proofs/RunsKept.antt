-- What holds of a plan opened over tables just built, and of all turns made on it.
use Rattle.std.proofs.Common.{◌≡◌, ℕ, List, [], sym, ap, ◌∙◌, subst, Ok, Option}
use mathlib.Core.Logic.{∥∥₁_map, ∥∥₁_elim, ∥∥₁_prop}
use Rattle.grammar.specs.Grammar.{Grammar}
use Rattle.grammar.specs.States.{Automaton}
use Rattle.grammar.specs.declared.action.Action.{Action}
use Rattle.tables.specs.declared.tables.Tables.{Tables}
use Rattle.tables.specs.Building.{held, BuiltFrom}
use Rattle.tables.specs.Held.{Held, holding}
use Rattle.plan.specs.Turns.{Turn}
use Rattle.plan.specs.Law.{Law, Promises}
use Rattle.plan.specs.Model.{Model}
use Rattle.plan.specs.Plans.{PlanValue}
use Rattle.plan.specs.LawKept.{KeepsLaw, BeginsLaw, LawKept, LawBegun}
use Rattle.plan.specs.Runs.{Promised}

module _ (G : Grammar) (n : ℕ) (A : Automaton) (cells : ℕ → ℕ → Option Action) (m : Model) (list : List ℕ) (free : ℕ) (ts : List Turn) (m' : Model) (list' : List ℕ) (free' : ℕ) where
  -- A plan that begins the law and keeps it.
  begun_kept : (h : Held) → h ≡ holding G n A cells → BeginsLaw h m list free → KeepsLaw h m list free ts m' list' free' → ∥ Law G A.goto cells list free ts list' free' × Promises G A.goto cells list free ts list' free' ∥₁
  begun_kept h e =
      subst (λ (k : Held). BeginsLaw k m list free → KeepsLaw k m list free ts m' list' free' → ∥ Law G A.goto cells list free ts list' free' × Promises G A.goto cells list free ts list' free' ∥₁) (sym e)
      (λ begun keeps. ∥∥₁_map (keeps [] list free (∥∥₁_map begun (λ x. x.0))) (λ x. (x.0.law, x.1)))

module _ {B : Type 0} (list : B → List ℕ) (free : B → ℕ) where
  pub run_kept : (G : Grammar) (b : B) (t : Tables) (p q : PlanValue B) (ts : List Turn) → BuiltFrom G (Ok tt) (held t) → p.tables ≡ t → p.book ≡ b → LawBegun list free p → LawKept list free p ts q → Promised G (list b) (free b) ts (list q.book) (free q.book)
  run_kept G b t p q ts built same same_book begun keeps =
      ∥∥₁_elim built ∥∥₁_prop λ x.
      let n = x.0 in let A = x.1 in let cells = x.2 in
      let e : held p.tables ≡ holding G n A cells = ap held same ∙ x.3 in
      ∥∥₁_map (begun_kept G n A cells p.model (list p.book) (free p.book) ts q.model (list q.book) (free q.book) (held p.tables) e begun keeps) λ z.
      let k = subst (λ (k : B). Law G A.goto cells (list k) (free k) ts (list q.book) (free q.book) × Promises G A.goto cells (list k) (free k) ts (list q.book) (free q.book)) same_book z in
      (n, A, cells, x.4, k.0, k.1)
