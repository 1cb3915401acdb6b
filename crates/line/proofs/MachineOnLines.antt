-- The machine on lines, reduction by reduction.
use Rattle.std.proofs.Common.{◌≡◌, ℕ, suc, ◌+◌, ◌-◌, ◌<◌, ◌≤◌, Bool, true, false, cond, leb, List, [], ◌∷◌, ◌++◌, length, drop, Ok, Err, sym, refl, ap, ◌∙◌, subst, inl, inr, arith, Option, Some, None}
use Rattle.std.proofs.lemmas.List.{append_assoc, append-nil, length_push}
use Rattle.std.proofs.lemmas.Bool.{cases_Bool, cond-true, cond-false, leb-true, leb-false}
use Rattle.grammar.specs.Grammar.{Grammar, left_side, right_side}
use Rattle.grammar.specs.Derivation.{is_rule}
use Rattle.grammar.specs.States.{Automaton}
use Rattle.grammar.specs.Line.{Line, Turned, after, refused, Ended, stuck, full, shifted, accepted, noted, act, put_on, go_on, runs}
use Rattle.grammar.specs.declared.action.Action.{Action}
use Rattle.grammar.specs.declared.action.Action.TheVariants.{Shift, Accept, Reduce}
use Rattle.grammar.proofs.MachineSteps.{runs_none, runs_shift, runs_accept, runs_full, notes, notes_snoc, notes_stuck, notes_full, notes_shifted, notes_accepted}
use Rattle.tables.specs.Held.{Held, blank, holding}
use Rattle.tables.specs.HeldReadings.{cell_of, goto_of, left_of, length_of}
use Rattle.line.specs.TurnRefusals.{told}
use Rattle.line.specs.declared.turn_refusal.TurnRefusal.{TurnRefusal}
use Rattle.line.specs.declared.turn_refusal.TurnRefusal.TheVariants.{NoAction}
use Rattle.line.specs.declared.line.Line.{Line as Arrays}
use Rattle.line.specs.declared.machine.Stop.TheVariants.{Shifted, Accepted}
use Rattle.line.specs.Reductions.{landed, uncovered, by_left, by_length, reduction}
use Rattle.line.specs.MachineRuns.{ends, Halted, Noted, StatesKept, MachineRan}
use Rattle.line.proofs.HeldStates.{RuleIn}

-- After a reduction the machine goes on where it lands, or halts where it was refused.
abbrev pub Goes : ℕ → (Line → Ended) → Turned → Ended → Type 0
Goes r f (after k) o = o ≡ noted r (f k)
Goes r f (refused c) o = Halted c o

module _ (G : Grammar) (n : ℕ) (A : Automaton) (cells : ℕ → ℕ → Option Action) (w r : ℕ) (l : Line) where
  abbrev H : Held
  H = holding G n A cells

  abbrev left : ℕ
  left = left_side G r

  abbrev size : ℕ
  size = length (right_side G r)

  module _ (m : ℕ) (same : m ≡ 768 - length (l.rules ++ r ∷ [])) where
    lands : (σ : List ℕ) (o : Option ℕ) → Goes r (ends G A cells w) (landed l r σ o) (put_on (runs G A cells m w) r σ o)
    lands σ None = refl
    lands σ (Some t) = ap (λ k. noted r (runs G A cells k w (t ∷ σ))) same

    uncovers : (σ : List ℕ) → Goes r (ends G A cells w) (uncovered H l r left σ) (go_on G A (runs G A cells m w) r σ)
    uncovers [] = refl
    uncovers (q ∷ σ) = lands (q ∷ σ) (A.goto q left)

  module _ (s : ℕ) (σ : List ℕ) (rule : is_rule G r ≡ true) (top : l.states ≡ s ∷ σ) (cell : cells s w ≡ Some (Reduce r)) where
    in_room : (m : ℕ) → 768 - length l.rules ≡ suc m → ends G A cells w l ≡ go_on G A (runs G A cells m w) r (drop size l.states)
    unfolding runs
    in_room m e =
        ap (λ k. runs G A cells k w l.states) e ∙ ap (runs G A cells (suc m) w) top
        ∙ ap (act (s ∷ σ) (λ r. go_on G A (runs G A cells m w) r (drop (length (right_side G r)) (s ∷ σ)))) cell
        ∙ ap (λ τ. go_on G A (runs G A cells m w) r (drop size τ)) (sym top)

    at_full : 768 ≤ length l.rules → ends G A cells w l ≡ full
    at_full h =
        let none_left : 768 - length l.rules ≡ 0 = omega arith in
        ap (λ k. runs G A cells k w l.states) none_left ∙ ap (runs G A cells 0 w) top ∙ runs_full G A cells w s σ r cell

    by_rule : reduction H l r ≡ cond (leb 768 (length l.rules)) (refused 13) (uncovered H l r left (drop size l.states))
    by_rule =
        ap (λ b. cond (leb 768 (length l.rules)) (refused 13) (by_length H l r (cond b (Some size) None))) rule
        ∙ ap (λ b. cond (leb 768 (length l.rules)) (refused 13) (by_left H l r size (cond b (Some left) None))) rule

    -- A cell that tells to reduce is followed by that reduction.
    pub machine_reduces : Goes r (ends G A cells w) (reduction H l r) (ends G A cells w l)
    machine_reduces =
        let on : Turned = uncovered H l r left (drop size l.states) in
        let Q : Turned → Type 0 = λ T. Goes r (ends G A cells w) T (ends G A cells w l) in
        elim (cases_Bool (leb 768 (length l.rules))) [
          | inl b ↦
              (let e : reduction H l r ≡ refused 13 = by_rule ∙ cond-true _ (refused 13) on b in
              subst Q (sym e) (subst (Halted 13) (sym (at_full (leb-true 768 (length l.rules) b))) refl))
          | inr b ↦
              (let e : reduction H l r ≡ on = by_rule ∙ cond-false _ (refused 13) on b in
              let low : length l.rules < 768 = leb-false 768 (length l.rules) b in
              let m : ℕ = 768 - length (l.rules ++ r ∷ []) in
              let one : 768 - length l.rules ≡ suc m = omega (arith, length_push l.rules r) in
              subst Q (sym e) (subst (Goes r (ends G A cells w) on) (sym (in_room m one)) (uncovers m refl (drop size l.states))))
        ]

-- A halt is told whatever was noted before it.
pub halted_noted : (c : ℕ) (ps : List ℕ) (o : Ended) → Halted c o → Halted c (notes ps o)
halted_noted c ps stuck h = subst (Halted c) (sym (notes_stuck ps)) h
halted_noted c ps full h = subst (Halted c) (sym (notes_full ps)) h
halted_noted c ps (shifted σ qs) h = elim h [ ]
halted_noted c ps (accepted σ qs) h = elim h [ ]

-- Between two lines the machine noted the rules ps, and goes on from the second.
pub record Between (G : Grammar) (A : Automaton) (cells : ℕ → ℕ → Option Action) (w : ℕ) (l k : Line) : Type 0 where
  pub steps : List ℕ
  pub noting : Noted l k steps
  pub same : ends G A cells w l ≡ notes steps (ends G A cells w k)

abbrev pub Midway : Held → ℕ → Line → Line → Type 0
Midway blank w l k = Unit {0}
Midway (holding G n A cells) w l k = Between G A cells w l k

-- At first nothing is noted.
pub midway_first : (h : Held) (w : ℕ) (l : Line) → Midway h w l l
midway_first blank w l = tt
midway_first (holding G n A cells) w l = record { steps = []; noting = record { words = refl; rules = sym (append-nil l.rules) }; same = refl }

-- What a reduction leaves of words and rules.
abbrev Notes : Line → ℕ → Turned → Type 0
Notes l r (after k) = Noted l k (r ∷ [])
Notes l r (refused c) = Unit {0}

module _ (h : Held) (l : Line) (r : ℕ) where
  notes_landed : (σ : List ℕ) (o : Option ℕ) → Notes l r (landed l r σ o)
  notes_landed σ None = tt
  notes_landed σ (Some t) = record { words = refl; rules = refl }

  notes_uncovered : (X : ℕ) (σ : List ℕ) → Notes l r (uncovered h l r X σ)
  notes_uncovered X [] = tt
  notes_uncovered X (q ∷ σ) = notes_landed (q ∷ σ) (goto_of h q X)

  notes_left : (k : ℕ) (o : Option ℕ) → Notes l r (by_left h l r k o)
  notes_left k None = tt
  notes_left k (Some X) = notes_uncovered X (drop k l.states)

  notes_length : (o : Option ℕ) → Notes l r (by_length h l r o)
  notes_length None = tt
  notes_length (Some k) = notes_left k (left_of h r)

  notes_room : (b : Bool) → Notes l r (cond b (refused 13) (by_length h l r (length_of h r)))
  notes_room true = tt
  notes_room false = notes_length (length_of h r)

  reduction_notes : (k : Line) → reduction h l r ≡ after k → Noted l k (r ∷ [])
  reduction_notes k e = subst (Notes l r) e (notes_room (leb 768 (length l.rules)))

  -- A reduction done notes one rule more.
  pub reduction_longer : (k : Line) → reduction h l r ≡ after k → length k.rules ≡ length l.rules + 1
  reduction_longer k e = ap length (reduction_notes k e).rules ∙ length_push l.rules r

pub kept_on : {l k m : Arrays} → StatesKept l k → StatesKept k m → StatesKept l m
kept_on p q = record { status = q.status ∙ p.status; count = q.count ∙ p.count; steps = omega (arith, p.steps, q.steps) }

module _ (w s r : ℕ) (σ : List ℕ) where
  -- One reduction more.
  pub midway_reduced : (h : Held) (l k m : Line) → RuleIn h r → k.states ≡ s ∷ σ → Some (Reduce r) ≡ cell_of h s w → Midway h w l k → reduction h k r ≡ after m → Midway h w l m
  midway_reduced blank l k m i top cell mid e = tt
  midway_reduced (holding G n A cells) l k m i top cell mid e =
      let on : ends G A cells w k ≡ noted r (ends G A cells w m) = subst (λ T. Goes r (ends G A cells w) T (ends G A cells w k)) e (machine_reduces G n A cells w r k s σ i top (sym cell)) in
      let p = reduction_notes (holding G n A cells) k r m e in
      record {
        steps = mid.steps ++ r ∷ [];
        noting = record { words = p.words ∙ mid.noting.words; rules = p.rules ∙ ap (λ qs. qs ++ r ∷ []) mid.noting.rules ∙ append_assoc l.rules mid.steps (r ∷ []) };
        same = mid.same ∙ ap (notes mid.steps) on ∙ sym (notes_snoc mid.steps r (ends G A cells w m));
      }

  -- A reduction that is refused.
  pub midway_refused : (h : Held) (l k m : Line) (e : TurnRefusal) → RuleIn h r → k.states ≡ s ∷ σ → Some (Reduce r) ≡ cell_of h s w → Midway h w l k → reduction h k r ≡ refused (told e).number → MachineRan h w l (Err e) m
  midway_refused blank l k m e i top cell mid x = cc
  midway_refused (holding G n A cells) l k m e i top cell mid x =
      let on : Halted (told e).number (ends G A cells w k) = subst (λ T. Goes r (ends G A cells w) T (ends G A cells w k)) x (machine_reduces G n A cells w r k s σ i top (sym cell)) in
      subst (Halted (told e).number) (sym mid.same) (halted_noted (told e).number mid.steps (ends G A cells w k) on)

module _ (w s : ℕ) (σ : List ℕ) where
  -- No action.
  pub midway_none : (h : Held) (l k m : Line) → k.states ≡ s ∷ σ → None ≡ cell_of h s w → Midway h w l k → MachineRan h w l (Err NoAction) m
  midway_none blank l k m top cell mid = refl
  midway_none (holding G n A cells) l k m top cell mid =
      let on : ends G A cells w k ≡ stuck = ap (runs G A cells (768 - length k.rules) w) top ∙ runs_none G A cells w s σ (768 - length k.rules) (sym cell) in
      subst (Halted 14) (sym (mid.same ∙ ap (notes mid.steps) on ∙ notes_stuck mid.steps)) refl

  -- A shift.
  pub midway_shift : (h : Held) (l k : Line) (t : ℕ) → k.states ≡ s ∷ σ → Some (Shift t) ≡ cell_of h s w → Midway h w l k → MachineRan h w l (Ok (Shifted t)) k
  midway_shift blank l k t top cell mid = cc
  midway_shift (holding G n A cells) l k t top cell mid =
      let on : ends G A cells w k ≡ shifted (t ∷ k.states) [] = ap (runs G A cells (768 - length k.rules) w) top ∙ runs_shift G A cells w s σ (768 - length k.rules) t (sym cell) ∙ ap (λ τ. shifted (t ∷ τ) []) (sym top) in
      (mid.steps, mid.noting, mid.same ∙ ap (notes mid.steps) on ∙ notes_shifted mid.steps (t ∷ k.states))

  -- An accept.
  pub midway_accept : (h : Held) (l k : Line) → k.states ≡ s ∷ σ → Some Accept ≡ cell_of h s w → Midway h w l k → MachineRan h w l (Ok Accepted) k
  midway_accept blank l k top cell mid = cc
  midway_accept (holding G n A cells) l k top cell mid =
      let on : ends G A cells w k ≡ accepted k.states [] = ap (runs G A cells (768 - length k.rules) w) top ∙ runs_accept G A cells w s σ (768 - length k.rules) (sym cell) ∙ ap (λ τ. accepted τ []) (sym top) in
      (mid.steps, mid.noting, mid.same ∙ ap (notes mid.steps) on ∙ notes_accepted mid.steps k.states)
