-- The steps of the machine with its limits, one for each content of a cell.
use Rattle.std.proofs.Common.{◌≡◌, ℕ, zero, suc, List, [], ◌∷◌, ◌++◌, length, drop, refl, ap, ◌∙◌, Option, Some, None}
use Rattle.grammar.specs.Grammar.{Grammar, left_side, right_side}
use Rattle.grammar.specs.States.{Automaton}
use Rattle.grammar.specs.Line.{Ended, stuck, full, shifted, accepted, noted, act, put_on, go_on, runs}
use Rattle.grammar.specs.declared.action.Action.{Action}
use Rattle.grammar.specs.declared.action.Action.TheVariants.{Shift, Accept, Reduce}

module _ (G : Grammar) (A : Automaton) (cells : ℕ → ℕ → Option Action) (w s : ℕ) (σ : List ℕ) where
  -- Where the cell holds no reduction, the room does not matter.
  at_cell : (n : ℕ) (c : Option Action) (o : Ended) → cells s w ≡ c → ((f : ℕ → Ended) → act (s ∷ σ) f c ≡ o) → runs G A cells n w (s ∷ σ) ≡ o
  unfolding runs
  at_cell zero c o e x = ap (act (s ∷ σ) (λ r. full)) e ∙ x (λ r. full)
  at_cell (suc n) c o e x = ap (act (s ∷ σ) (λ r. go_on G A (runs G A cells n w) r (drop (length (right_side G r)) (s ∷ σ)))) e ∙ x (λ r. go_on G A (runs G A cells n w) r (drop (length (right_side G r)) (s ∷ σ)))

  pub runs_none : (n : ℕ) → cells s w ≡ None → runs G A cells n w (s ∷ σ) ≡ stuck
  runs_none n e = at_cell n None stuck e (λ f. refl)

  pub runs_shift : (n t : ℕ) → cells s w ≡ Some (Shift t) → runs G A cells n w (s ∷ σ) ≡ shifted (t ∷ s ∷ σ) []
  runs_shift n t e = at_cell n (Some (Shift t)) (shifted (t ∷ s ∷ σ) []) e (λ f. refl)

  pub runs_accept : (n : ℕ) → cells s w ≡ Some Accept → runs G A cells n w (s ∷ σ) ≡ accepted (s ∷ σ) []
  runs_accept n e = at_cell n (Some Accept) (accepted (s ∷ σ) []) e (λ f. refl)

  pub runs_full : (r : ℕ) → cells s w ≡ Some (Reduce r) → runs G A cells 0 w (s ∷ σ) ≡ full
  unfolding runs
  runs_full r e = ap (act (s ∷ σ) (λ r. full)) e

  pub runs_reduce : (n r q t : ℕ) (ρ : List ℕ) → cells s w ≡ Some (Reduce r) → drop (length (right_side G r)) (s ∷ σ) ≡ q ∷ ρ → A.goto q (left_side G r) ≡ Some t → runs G A cells (suc n) w (s ∷ σ) ≡ noted r (runs G A cells n w (t ∷ q ∷ ρ))
  unfolding runs
  runs_reduce n r q t ρ e d g = ap (act (s ∷ σ) (λ r. go_on G A (runs G A cells n w) r (drop (length (right_side G r)) (s ∷ σ)))) e ∙ ap (go_on G A (runs G A cells n w) r) d ∙ ap (put_on (runs G A cells n w) r (q ∷ ρ)) g

-- The rules ps noted, one by one, before an end.
abbrev pub notes : List ℕ → Ended → Ended
notes [] o = o
notes (r ∷ rs) o = noted r (notes rs o)

pub notes_snoc : (ps : List ℕ) (r : ℕ) (o : Ended) → notes (ps ++ r ∷ []) o ≡ notes ps (noted r o)
notes_snoc [] r o = refl
notes_snoc (p ∷ ps) r o = ap (noted p) (notes_snoc ps r o)

pub notes_stuck : (ps : List ℕ) → notes ps stuck ≡ stuck
notes_stuck [] = refl
notes_stuck (p ∷ ps) = ap (noted p) (notes_stuck ps)

pub notes_full : (ps : List ℕ) → notes ps full ≡ full
notes_full [] = refl
notes_full (p ∷ ps) = ap (noted p) (notes_full ps)

pub notes_shifted : (ps τ : List ℕ) → notes ps (shifted τ []) ≡ shifted τ ps
notes_shifted [] τ = refl
notes_shifted (p ∷ ps) τ = ap (noted p) (notes_shifted ps τ)

pub notes_accepted : (ps τ : List ℕ) → notes ps (accepted τ []) ≡ accepted τ ps
notes_accepted [] τ = refl
notes_accepted (p ∷ ps) τ = ap (noted p) (notes_accepted ps τ)
