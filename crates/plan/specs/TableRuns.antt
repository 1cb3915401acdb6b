-- The machine of tables, by where their codes lead and by what their cells hold.
use Rattle.std.specs.Prelude.{◌≡◌, ℕ, List, Option, Some}
use Rattle.grammar.specs.Grammar.{Grammar}
use Rattle.grammar.specs.Machine.{Goes, Few}
use Rattle.grammar.specs.declared.action.Action.{Action}

module _ (G : Grammar) (goto : ℕ → ℕ → Option ℕ) (cells : ℕ → ℕ → Option Action) where
  -- From a stack of states and an input to another stack and what is left of the input, noting
  -- rules.
  abbrev pub Run : List ℕ → List ℕ → List ℕ → List ℕ → List ℕ → Type 0
  Run σ i ps τ j = Goes G goto (λ s w a. cells s w ≡ Some a) σ i ps τ j

  -- The machine, run from state 0 over the words, makes no 769th reduction.
  abbrev pub FewReductions : List ℕ → Type 0
  FewReductions ws = Few G goto (λ s w a. cells s w ≡ Some a) ws
