-- A run of turns on a book, from an opening to its end.
use Rattle.std.specs.Prelude.{◌≡◌, ℕ, List, Option, Result, Ok, Err}
use Rattle.grammar.specs.Grammar.{Grammar}
use Rattle.grammar.specs.States.{Automaton}
use Rattle.grammar.specs.Outcome.{Outcome, built, refused as not_built}
use Rattle.grammar.specs.declared.action.Action.{Action}
use Rattle.tables.specs.BuildRefusals.{told}
use Rattle.tables.specs.declared.build_refusal.BuildRefusal.{BuildRefusal}
use Rattle.plan.specs.Turns.{Turn}
use Rattle.plan.specs.Law.{Law, Promises}
use Rattle.plan.specs.Made.{Grown}

-- Building the grammar comes to tables, and by their machine the law and the three promises hold of
-- the turns, from the book's list and free count before them to those behind them; b₀ is the book's
-- list and n₀ its free count at first.
abbrev pub Promised : Grammar → List ℕ → ℕ → List Turn → List ℕ → ℕ → Type 0
Promised G b₀ n₀ turns list free =
    ∥ ((n : ℕ) × (A : Automaton) × (cells : ℕ → ℕ → Option Action)
    × Outcome G (built n A cells)
    × Law G A.goto cells b₀ n₀ turns list free
    × Promises G A.goto cells b₀ n₀ turns list free) ∥₁

-- Done: there are turns, just those that were asked for with the answers given, and all of this
-- holds of them; the book grew in its own way. Refused as building is: the book is as it was, and so
-- is what was lent.
abbrev pub Ran : {B : Type 0}
    → Grammar
    → (B → List ℕ)
    → (B → ℕ)
    → (B → List ℕ → B → Type 0)
    → (List Turn → Type 0)
    → Type 0
    → B
    → Result B (BuildRefusal × B)
    → Type 0
Ran G list free grows Are Same b (Ok c) =
    (turns : List Turn)
    × Are turns
    × Promised G (list b) (free b) turns (list c) (free c)
    × Grown grows b c
Ran G list free grows Are Same b (Err e) = Outcome G (not_built (told e.0)) × (e.1 ≡ b) × Same
