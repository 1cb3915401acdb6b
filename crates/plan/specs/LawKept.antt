-- The law, as each call of a plan keeps it.
use Rattle.std.specs.Prelude.{ℕ, List, [], ◌++◌}
use Rattle.tables.specs.Building.{held}
use Rattle.tables.specs.Held.{Held, blank, holding}
use Rattle.plan.specs.Turns.{Turn}
use Rattle.plan.specs.Law.{Promises}
use Rattle.plan.specs.Model.{Model}
use Rattle.plan.specs.Shows.{Shows}
use Rattle.plan.specs.Plans.{PlanValue}

-- Whatever turns plan and book showed before, they now show these and some more, and the three
-- promises hold of them all. Blank tables take no turn.
abbrev pub KeepsLaw : Held → Model → List ℕ → ℕ → List Turn → Model → List ℕ → ℕ → Type 0
KeepsLaw blank m list free more m' list' free' = Unit {0}
KeepsLaw (holding G n A cells) m list free more m' list' free' =
    (turns : List Turn) (b₀ : List ℕ) (n₀ : ℕ)
    → ∥ Shows G A.goto cells turns b₀ n₀ m list free ∥₁
    → ∥ Shows G A.goto cells (turns ++ more) b₀ n₀ m' list' free'
    × Promises G A.goto cells b₀ n₀ (turns ++ more) list' free' ∥₁

-- Plan and book show that there was no turn, and the three promises hold of none.
abbrev pub BeginsLaw : Held → Model → List ℕ → ℕ → Type 0
BeginsLaw blank m list free = Unit {0}
BeginsLaw (holding G n A cells) m list free =
    ∥ Shows G A.goto cells [] list free m list free
    × Promises G A.goto cells list free [] list free ∥₁

-- The law between two plans, by how their books are read.
abbrev pub LawKept : {B : Type 0}
    → (B → List ℕ)
    → (B → ℕ)
    → PlanValue B
    → List Turn
    → PlanValue B
    → Type 0
LawKept list free p more q =
    KeepsLaw (held p.tables) p.model (list p.book) (free p.book) more q.model (list q.book)
    (free q.book)

-- The law of a plan just opened.
abbrev pub LawBegun : {B : Type 0} → (B → List ℕ) → (B → ℕ) → PlanValue B → Type 0
LawBegun list free p = BeginsLaw (held p.tables) p.model (list p.book) (free p.book)
