-- Where an open line stands: behind its words, whatever comes next.
use Rattle.std.proofs.Common.{◌≡◌, ℕ, ◌+◌, ◌-◌, ◌<◌, ◌≤◌, Bool, true, false, cond, not, leb, List, [], ◌∷◌, ◌++◌, length, refl, ap, subst, append_assoc, arith, length-append, length-drop, leb-false, Option}
use Rattle.grammar.specs.Grammar.{Grammar, right_side}
use Rattle.grammar.specs.Derivation.{is_terminal}
use Rattle.grammar.specs.States.{Automaton}
use Rattle.grammar.specs.Cells.{Exact}
use Rattle.grammar.specs.Machine.{Run, halt, shift, reduce}
use Rattle.grammar.specs.Line.{Line, fresh_line, Ended, stuck, full, shifted, accepted, runs, Turned, after, refused, after_word, take_word, Open, fresh, taken}
use Rattle.grammar.specs.declared.action.Action.{Action}
use Rattle.grammar.proofs.Runs.{then}
use Rattle.grammar.proofs.MachineEnds.{Says, says}

pub same_line : {l m : Line} → after l ≡ after m → l ≡ m
same_line e = cc

pub same_cause : {c d : ℕ} → refused c ≡ refused d → c ≡ d
same_cause e = cc

pub not_after : {c : ℕ} {m : Line} → refused c ≡ after m → ⊥
not_after e = let z : ◌≡◌ {A = ℕ} 0 1 = cc in omega arith

-- A word that is refused neither with 11 nor with 12 comes to the machine, on a line with room for it.
pub machine_says : (G : Grammar) (A : Automaton) (cells : ℕ → ℕ → Option Action) (l : Line) (w : ℕ) {t : Turned} → take_word G A cells l w ≡ t → (refused 11 ≡ t → ⊥) → (refused 12 ≡ t → ⊥) → (length l.words < 256) × (after_word l w (runs G A cells (768 - length l.rules) w l.states) ≡ t)
machine_says G A cells l w {t} e f g = by (leb 256 (length l.words)) (not (is_terminal G w)) refl e
  where
    by : (a b : Bool) → leb 256 (length l.words) ≡ a → cond a (refused 11) (cond b (refused 12) (after_word l w (runs G A cells (768 - length l.rules) w l.states))) ≡ t → (length l.words < 256) × (after_word l w (runs G A cells (768 - length l.rules) w l.states) ≡ t)
    by true b h e = absurd (f e)
    by false true h e = absurd (g e)
    by false false h e = (leb-false 256 (length l.words) h, e)

-- A line within its limits from which the machine, run over its words, stands at its states with its rules noted, whatever comes next.
pub record Standing (G : Grammar) (A : Automaton) (l : Line) : Type 0 where
  pub few_words : length l.words ≤ 256
  pub few_rules : length l.rules ≤ 768
  pub run : (k : List ℕ) → Run G A (0 ∷ []) (l.words ++ k) l.rules l.states k

module _ {G : Grammar} {A : Automaton} where
  -- A word shifted.
  standing_word : {l : Line} (w : ℕ) {τ ps : List ℕ} → Standing G A l → length l.words < 256 → Says G A (768 - length l.rules) w l.states (shifted τ ps) → Standing G A (record { states = τ; words = l.words ++ w ∷ []; rules = l.rules ++ ps })
  standing_word {l} w {τ} {ps} st h s =
      record {
        few_words = rw length-append (omega arith);
        few_rules = rw length-append (omega (arith, s.1, st.few_rules));
        run = λ k. rw append_assoc (then (st.run (w ∷ k)) (s.0 k));
      }

  ended_word : {l m : Line} (w : ℕ) (o : Ended) → Standing G A l → length l.words < 256 → Says G A (768 - length l.rules) w l.states o → after_word l w o ≡ after m → Standing G A m
  ended_word w stuck st h s e = cc
  ended_word w full st h s e = cc
  ended_word w (accepted τ ps) st h s e = cc
  ended_word w (shifted τ ps) st h s e = subst (λ m. Standing G A m) (same_line e) (standing_word w st h s)

  -- The states on a stack are at most those that were put on.
  depth : {σ i ps τ j : List ℕ} → Run G A σ i ps τ j → length τ + length j ≤ length σ + length i + length ps
  depth halt = omega arith
  depth (shift h x) = omega (arith, depth x)
  depth (reduce {s = s} {r = r} {σ = σ} h d g x) = omega (arith, depth x, ap length d, length-drop (length (right_side G r)) (s ∷ σ))

  pub deep : (us : List ℕ) {j ps τ : List ℕ} → Run G A (0 ∷ []) (us ++ j) ps τ j → length τ ≤ 1 + length us + length ps
  deep us {j} x = omega (arith, depth x, length-append us j)

  pub states_of : (l : Line) → Standing G A l → length l.states ≤ 1 + length l.words + length l.rules
  states_of l st = deep l.words (st.run [])

module _ (G : Grammar) (A : Automaton) where
  pub standing_fresh : Standing G A fresh_line
  standing_fresh = record { few_words = omega arith; few_rules = omega arith; run = λ k. halt }

  module _ (cells : ℕ → ℕ → Option Action) (exact : Exact G A cells) where
    -- A line stands behind a word that it takes.
    pub standing_taken : {l m : Line} (w : ℕ) → Standing G A l → take_word G A cells l w ≡ after m → Standing G A m
    standing_taken {l} w st e =
        let n = 768 - length l.rules in
        let m = machine_says G A cells l w e not_after not_after in
        ended_word w (runs G A cells n w l.states) st m.0 (says G A cells exact n w l.states) m.1

    -- Every open line stands behind its words.
    pub standing : {l : Line} → Open G A cells l → Standing G A l
    standing fresh = standing_fresh
    standing (taken w x e) = standing_taken w (standing x) e
