-- The machine in the midst of a turn: what a loop over its reductions keeps, and where the loop ends.
use Rattle.std.proofs.Common.{◌≡◌, ℕ, suc, ◌+◌, ◌-◌, ◌<◌, ◌≤◌, List, [], ◌∷◌, ◌++◌, length, drop, sym, refl, ap, ◌∙◌, subst, append_assoc, append-nil, add-zero, arith, length-append, Option, Some, None}
use Rattle.grammar.specs.Grammar.{Grammar, left_side, right_side}
use Rattle.grammar.specs.States.{Automaton, Laws}
use Rattle.grammar.specs.Cells.{Exact}
use Rattle.grammar.specs.Machine.{Run, halt, reduce, Spells, bottom, push}
use Rattle.grammar.specs.Line.{Line, stuck, full, shifted, accepted, runs}
use Rattle.grammar.specs.declared.action.Action.{Action}
use Rattle.grammar.specs.declared.action.Action.TheVariants.{Shift, Accept, Reduce}
use Rattle.grammar.proofs.Runs.{then}
use Rattle.grammar.proofs.SpelledStacks.{stands_at, can_reduce}
use Rattle.grammar.proofs.OpenLines.{Standing, deep}
use Rattle.grammar.proofs.MachineSteps.{runs_none, runs_shift, runs_accept, runs_full, runs_reduce, notes, notes_snoc, notes_stuck, notes_full, notes_shifted, notes_accepted}

-- On the line l at the word w, the rules ps were noted in this turn and the stack is σ.
pub record Midway (G : Grammar) (A : Automaton) (cells : ℕ → ℕ → Option Action) (l : Line) (w : ℕ) (ps σ : List ℕ) : Type 0 where
  pub within : length l.rules + length ps ≤ 768
  pub run : (k : List ℕ) → Run G A (0 ∷ []) (l.words ++ w ∷ k) (l.rules ++ ps) σ (w ∷ k)
  pub same : runs G A cells (768 - length l.rules) w l.states ≡ notes ps (runs G A cells (768 - (length l.rules + length ps)) w σ)

-- A reduction's states and its goto.
pub record Reduction (G : Grammar) (A : Automaton) (r : ℕ) (σ : List ℕ) : Type 0 where
  pub base : ℕ
  pub below : List ℕ
  pub to : ℕ
  pub taken_off : drop (length (right_side G r)) σ ≡ base ∷ below
  pub move : A.goto base (left_side G r) ≡ Some to

-- A stack is never empty.
pub record Top (σ : List ℕ) : Type 0 where
  pub top : ℕ
  pub below : List ℕ
  pub is : σ ≡ top ∷ below

top_of : {G : Grammar} {A : Automaton} {γ σ : List ℕ} → Spells G A γ σ → Top σ
top_of bottom = record { top = 0; below = []; is = refl }
top_of (push {p = p} {t = t} {σ = σ} x g) = record { top = t; below = p ∷ σ; is = refl }

module _ {G : Grammar} {A : Automaton} (L : Laws G A) (cells : ℕ → ℕ → Option Action) (exact : Exact G A cells) (l : Line) (w : ℕ) where
  pub midway_begin : Standing G A l → Midway G A cells l w [] l.states
  midway_begin st =
      record {
        within = omega (arith, st.few_rules);
        run = λ k. subst (λ ps. Run G A (0 ∷ []) (l.words ++ w ∷ k) ps l.states (w ∷ k)) (sym (append-nil l.rules)) (st.run (w ∷ k));
        same = ap (λ n. runs G A cells (768 - n) w l.states) (sym (add-zero (length l.rules)));
      }

  module _ {ps σ : List ℕ} (m : Midway G A cells l w ps σ) where
    pub midway_top : Top σ
    midway_top = top_of (stands_at L l.words (m.run [])).spells

    pub midway_depth : length σ ≤ 1 + length l.words + (length l.rules + length ps)
    midway_depth = omega (arith, deep l.words (m.run []), length-append l.rules ps)

  -- The end of the turn, by what the cell of the top holds.
  module _ {ps σ : List ℕ} {s : ℕ} (m : Midway G A cells l w ps (s ∷ σ)) where
    pub midway_none : cells s w ≡ None → runs G A cells (768 - length l.rules) w l.states ≡ stuck
    midway_none e = m.same ∙ ap (notes ps) (runs_none G A cells w s σ (768 - (length l.rules + length ps)) e) ∙ notes_stuck ps

    pub midway_shift : (t : ℕ) → cells s w ≡ Some (Shift t) → runs G A cells (768 - length l.rules) w l.states ≡ shifted (t ∷ s ∷ σ) ps
    midway_shift t e = m.same ∙ ap (notes ps) (runs_shift G A cells w s σ (768 - (length l.rules + length ps)) t e) ∙ notes_shifted ps (t ∷ s ∷ σ)

    pub midway_accept : cells s w ≡ Some Accept → runs G A cells (768 - length l.rules) w l.states ≡ accepted (s ∷ σ) ps
    midway_accept e = m.same ∙ ap (notes ps) (runs_accept G A cells w s σ (768 - (length l.rules + length ps)) e) ∙ notes_accepted ps (s ∷ σ)

    pub midway_full : (r : ℕ) → cells s w ≡ Some (Reduce r) → length l.rules + length ps ≡ 768 → runs G A cells (768 - length l.rules) w l.states ≡ full
    midway_full r e h =
        let z : 768 - (length l.rules + length ps) ≡ 0 = omega arith in
        m.same ∙ ap (λ n. notes ps (runs G A cells n w (s ∷ σ))) z ∙ ap (notes ps) (runs_full G A cells w s σ r e) ∙ notes_full ps

    pub midway_reduction : (r : ℕ) → cells s w ≡ Some (Reduce r) → Reduction G A r (s ∷ σ)
    midway_reduction r e =
        let c = can_reduce L (stands_at L l.words (m.run [])).spells ((exact s w (Reduce r)).0 e) in
        record { base = c.0; below = c.1; to = c.2; taken_off = c.3; move = c.4 }

    -- One reduction more.
    pub midway_reduce : (r q t : ℕ) (ρ : List ℕ) → cells s w ≡ Some (Reduce r) → length l.rules + length ps < 768 → drop (length (right_side G r)) (s ∷ σ) ≡ q ∷ ρ → A.goto q (left_side G r) ≡ Some t → Midway G A cells l w (ps ++ r ∷ []) (t ∷ q ∷ ρ)
    midway_reduce r q t ρ e h d g =
        let n = 768 - (length l.rules + length (ps ++ r ∷ [])) in
        let z : 768 - (length l.rules + length ps) ≡ suc n = rw length-append (omega arith) in
        record {
          within = rw length-append (omega arith);
          run = λ k. subst (λ qs. Run G A (0 ∷ []) (l.words ++ w ∷ k) qs (t ∷ q ∷ ρ) (w ∷ k)) (append_assoc l.rules ps (r ∷ [])) (then (m.run k) (reduce ((exact s w (Reduce r)).0 e) d g halt));
          same = m.same ∙ ap (λ a. notes ps (runs G A cells a w (s ∷ σ))) z ∙ ap (notes ps) (runs_reduce G A cells w s σ n r q t ρ e d g) ∙ sym (notes_snoc ps r (runs G A cells n w (t ∷ q ∷ ρ)));
        }
