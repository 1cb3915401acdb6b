-- Tables of which the law is proved, and plans that show one turn more.
use Rattle.std.proofs.Common.{ℕ, List, [], ◌∷◌, ◌++◌, Option}
use Rattle.grammar.specs.Grammar.{Grammar}
use Rattle.grammar.specs.Trees.{AllProductive}
use Rattle.grammar.specs.States.{Automaton}
use Rattle.grammar.specs.Cells.{Exact}
use Rattle.grammar.specs.Theorems.{Given}
use Rattle.grammar.specs.declared.action.Action.{Action}
use Rattle.plan.specs.Turns.{Turn}
use Rattle.plan.specs.Model.{Model}
use Rattle.plan.specs.Shows.{Shows}

-- The tables of a grammar all of whose nonterminals are productive: its numbered states, and cells that hold exactly their actions.
pub record TablesOf (G : Grammar) (n : ℕ) (A : Automaton) (cells : ℕ → ℕ → Option Action) : Type 0 where
  pub given : Given G n A
  pub productive : AllProductive G
  pub exact : Exact G A cells

-- Whatever turns plan and book showed before, they now show these and one turn more.
abbrev pub Continues : Grammar → Automaton → (ℕ → ℕ → Option Action) → Model → List ℕ → ℕ → Turn → Model → List ℕ → ℕ → Type 0
Continues G A cells m list free t m' list' free' =
    (turns : List Turn) (b₀ : List ℕ) (n₀ : ℕ)
    → Shows G A.goto cells turns b₀ n₀ m list free
    → Shows G A.goto cells (turns ++ t ∷ []) b₀ n₀ m' list' free'
