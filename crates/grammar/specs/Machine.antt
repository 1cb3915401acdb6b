-- The machine without limits, as a relation over stacks of states, the top first, and the input that is left.
use Rattle.std.specs.Prelude.{◌≡◌, ℕ, ◌≤◌, List, [], ◌∷◌, ◌++◌, length, drop, Option, Some}
use Rattle.grammar.specs.Grammar.{Grammar, left_side, right_side}
use Rattle.grammar.specs.States.{Automaton}
use Rattle.grammar.specs.Cells.{Holds}
use Rattle.grammar.specs.declared.action.Action.{Action}
use Rattle.grammar.specs.declared.action.Action.TheVariants.{Shift, Accept, Reduce}

-- By any gotos, and by whatever cells hold.
module _ (G : Grammar) (goto : ℕ → ℕ → Option ℕ) (holds : ℕ → ℕ → Action → Type 0) where
  -- Goes σ i ps τ j: from stack σ and input i to stack τ and input j, noting the rules ps. A shift puts on its state; a reduction takes off as many states as its rule is long, puts on the state reached by the left side, and notes the rule.
  pub data Goes : List ℕ → List ℕ → List ℕ → List ℕ → List ℕ → Type 0 where
    halt : {σ i : List ℕ} → Goes σ i [] σ i
    shift : {s w t : ℕ} {σ i ps τ j : List ℕ} → holds s w (Shift t) → Goes (t ∷ s ∷ σ) i ps τ j → Goes (s ∷ σ) (w ∷ i) ps τ j
    reduce : {s w r q t : ℕ} {σ ρ i ps τ j : List ℕ} → holds s w (Reduce r) → drop (length (right_side G r)) (s ∷ σ) ≡ q ∷ ρ → goto q (left_side G r) ≡ Some t → Goes (t ∷ q ∷ ρ) (w ∷ i) ps τ j → Goes (s ∷ σ) (w ∷ i) (r ∷ ps) τ j

  -- No run over the words from state 0 makes a 769th reduction.
  abbrev pub Few : List ℕ → Type 0
  Few ws = (ps τ j : List ℕ) → Goes (0 ∷ []) ws ps τ j → length ps ≤ 768

module _ (G : Grammar) (A : Automaton) where
  -- The machine by the states of a grammar, and by what their cells have to hold.
  abbrev pub Run : List ℕ → List ℕ → List ℕ → List ℕ → List ℕ → Type 0
  Run = Goes G A.goto (Holds G A)

  abbrev pub FewReductions : List ℕ → Type 0
  FewReductions ws = Few G A.goto (Holds G A) ws

  -- Accepts σ i ps: from stack σ and input i the machine accepts, noting the rules ps.
  pub data Accepts : List ℕ → List ℕ → List ℕ → Type 0 where
    accept : {s w : ℕ} {σ : List ℕ} → Holds G A s w Accept → Accepts (s ∷ σ) (w ∷ []) []
    shift : {s w t : ℕ} {σ i ps : List ℕ} → Holds G A s w (Shift t) → Accepts (t ∷ s ∷ σ) i ps → Accepts (s ∷ σ) (w ∷ i) ps
    reduce : {s w r q t : ℕ} {σ ρ i ps : List ℕ} → Holds G A s w (Reduce r) → drop (length (right_side G r)) (s ∷ σ) ≡ q ∷ ρ → A.goto q (left_side G r) ≡ Some t → Accepts (t ∷ q ∷ ρ) (w ∷ i) ps → Accepts (s ∷ σ) (w ∷ i) (r ∷ ps)

  -- The stack is the states along the codes γ from state 0.
  pub data Spells : List ℕ → List ℕ → Type 0 where
    bottom : Spells [] (0 ∷ [])
    push : {p X t : ℕ} {γ σ : List ℕ} → Spells γ (p ∷ σ) → A.goto p X ≡ Some t → Spells (γ ++ X ∷ []) (t ∷ p ∷ σ)

  -- The machine accepts the words and then the end mark, from state 0, noting the rules ps.
  abbrev pub AcceptsWords : List ℕ → List ℕ → Type 0
  AcceptsWords ws ps = Accepts (0 ∷ []) (ws ++ 0 ∷ []) ps
