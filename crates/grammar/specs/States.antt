-- The numbered states. The end mark makes no state: no right side has it.
use Rattle.std.specs.Prelude.{◌≡◌, ℕ, suc, ◌<◌, ◌≤◌, Bool, true, false, ◌⊎◌, ◌≢◌, Option, Some}
use Rattle.grammar.specs.Grammar.{Grammar, IsRule, left_side}
use Rattle.grammar.specs.Items.{Items, Same, CodeAt, Completes, origin, Move, Waits}

-- The sets that are reached by moves from the first.
pub data Reached (G : Grammar) : Items → Type 0 where
  first : {S : Items} → Completes G origin S → Reached G S
  onward : {S T : Items} {X : ℕ} → Reached G S → Waits G S X → Move G S X T → Reached G T

-- More than 96 different sets are reached, so that a 97th state would be needed.
pub record Crowded (G : Grammar) : Type 0 where
  pub at : ℕ → Items
  pub reached : (i : ℕ) → i < 97 → Reached G (at i)
  pub apart : (i j : ℕ) → i < 97 → j < 97 → Same (at i) (at j) → i ≡ j

-- States by number: which items each has, and where each code leads.
pub record Automaton : Type 0 where
  pub has : ℕ → ℕ → ℕ → Bool
  pub goto : ℕ → ℕ → Option ℕ

-- State p at code X comes before state q at code Y: lower states first, and lower codes first in each.
abbrev pub Earlier : ℕ → ℕ → ℕ → ℕ → Type 0
Earlier p X q Y = (p < q) ⊎ ((p ≡ q) × (X < Y))

-- State t is new at a lower state and a code: all that is met earlier has lower numbers.
pub record Met (A : Automaton) (t : ℕ) : Type 0 where
  pub state : ℕ
  pub code : ℕ
  pub lower : state < t
  pub here : A.goto state code ≡ Some t
  pub before : (p X u : ℕ) → Earlier p X state code → A.goto p X ≡ Some u → u < t

-- n states, numbered: state 0 from rule 0; states taken by rising number and the codes of each by rising code; a set met before keeps its number.
pub record Numbered (G : Grammar) (n : ℕ) (A : Automaton) : Type 0 where
  pub some_state : 1 ≤ n
  pub begins : Completes G origin (A.has 0)
  pub apart : (s t : ℕ) → s < n → t < n → Same (A.has s) (A.has t) → s ≡ t
  pub moves : (s X : ℕ) → s < n → Waits G (A.has s) X → (t : ℕ) × (A.goto s X ≡ Some t) × (t < n) × Move G (A.has s) X (A.has t)
  pub only : (s X t : ℕ) → A.goto s X ≡ Some t → (s < n) × Waits G (A.has s) X
  pub met : (t : ℕ) → 1 ≤ t → t < n → Met A t
  pub outside : (s r d : ℕ) → n ≤ s → A.has s r d ≡ false

-- Two automata have the same states and moves.
pub record Agree (A B : Automaton) : Type 0 where
  pub has : (s r d : ℕ) → A.has s r d ≡ B.has s r d
  pub goto : (s X : ℕ) → A.goto s X ≡ B.goto s X

-- The items of a state, each with a way by which it came in: moved over a code, rule 0 in front, or by closure.
pub data Made (G : Grammar) (has : ℕ → ℕ → ℕ → Bool) : ℕ → ℕ → ℕ → Type 0 where
  moved : {s r d : ℕ} → has s r (suc d) ≡ true → Made G has s r (suc d)
  at_origin : Made G has 0 0 0
  closure : {s r d q : ℕ} → Made G has s r d → CodeAt G r d (left_side G q) → IsRule G q → Made G has s q 0

-- The laws of the numbered states on which the proofs about the machine stand.
pub record Laws (G : Grammar) (A : Automaton) : Type 0 where
  pub first : A.has 0 0 0 ≡ true
  pub closed : {s r d q : ℕ} → A.has s r d ≡ true → CodeAt G r d (left_side G q) → IsRule G q → A.has s q 0 ≡ true
  pub moves : {s r d X : ℕ} → A.has s r d ≡ true → CodeAt G r d X → (t : ℕ) × (A.goto s X ≡ Some t) × (A.has t r (suc d) ≡ true)
  pub came : {s t X r d : ℕ} → A.goto s X ≡ Some t → A.has t r (suc d) ≡ true → CodeAt G r d X × (A.has s r d ≡ true)
  pub target : {s t X : ℕ} → A.goto s X ≡ Some t → (r d : ℕ) × (A.has t r (suc d) ≡ true)
  pub made : {s r d : ℕ} → A.has s r d ≡ true → Made G A.has s r d
  pub fresh : {r d : ℕ} → A.has 0 r (suc d) ≢ true
