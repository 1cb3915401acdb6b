-- A turn of an open line ends for want of room exactly when a run over its words, and the word or the end mark, makes a 769th reduction.
use Rattle.std.proofs.Common.{◌≡◌, ℕ, zero, suc, ◌-◌, ◌≤◌, List, [], ◌∷◌, ◌++◌, length, sym, refl, ap, ◌∙◌, subst, ⊎_elim, suc-le-suc, arith, length-append, Option}
use mathlib.Core.List.{cons≢nil}
use Rattle.grammar.specs.Grammar.{Grammar, Valid}
use Rattle.grammar.specs.States.{Automaton, Laws}
use Rattle.grammar.specs.Cells.{Exact}
use Rattle.grammar.specs.Machine.{Run, halt, shift, reduce, FewReductions}
use Rattle.grammar.specs.Line.{Line, Ended, stuck, full, shifted, accepted, noted, runs, refused, after_word, after_judging, take_word, judge_line}
use Rattle.grammar.specs.declared.action.Action.{Action}
use Rattle.grammar.specs.declared.action.Action.TheVariants.{Reduce}
use Rattle.grammar.proofs.Runs.{onward}
use Rattle.grammar.proofs.MachineEnds.{Says, says, conflict_free}
use Rattle.grammar.proofs.MachineSteps.{runs_full, runs_reduce}
use Rattle.grammar.proofs.OpenLines.{Standing, same_cause, machine_says}
use Rattle.grammar.proofs.TakenWords.{overfull}

-- With no input left no rule is noted.
at_end : {G : Grammar} {A : Automaton} {σ i qs τ j : List ℕ} → Run G A σ i qs τ j → i ≡ [] → length qs ≡ 0
at_end halt e = refl
at_end (shift h x) e = absurd (cons≢nil e)
at_end (reduce h d g x) e = absurd (cons≢nil e)

module _ {G : Grammar} {A : Automaton} (cells : ℕ → ℕ → Option Action) (exact : Exact G A cells) where
  -- Where room for n rules is enough, no run over the word notes more.
  within_room : {w : ℕ} {σ qs τ j : List ℕ} → Run G A σ (w ∷ []) qs τ j → (n : ℕ) → (runs G A cells n w σ ≡ full → ⊥) → length qs ≤ n
  within_room halt n f = omega arith
  within_room (shift h x) n f = omega (arith, at_end x refl)
  within_room {w} (reduce {s = s} {r = r} {σ = σ} h d g x) zero f = absurd (f (runs_full G A cells w s σ r ((exact s w (Reduce r)).1 h)))
  within_room {w} (reduce {s = s} {r = r} {q = q} {t = t} {σ = σ} {ρ = ρ} h d g x) (suc n) f =
      suc-le-suc (within_room x n (λ e. f (runs_reduce G A cells w s σ n r q t ρ ((exact s w (Reduce r)).1 h) d g ∙ ap (noted r) e)))

  few_room : (l : Line) → Standing G A l → (w : ℕ) → (runs G A cells (768 - length l.rules) w l.states ≡ full → ⊥) → FewReductions G A (l.words ++ w ∷ [])
  few_room l st w f ps τ j x =
      ⊎_elim (λ h. omega (arith, st.few_rules)) (λ z. omega (arith, ap length z.1, length-append l.rules z.0, within_room z.2 (768 - length l.rules) f, st.few_rules))
      (onward (conflict_free G A cells exact) (st.run (w ∷ [])) x)

module _ {G : Grammar} {A : Automaton} (v : Valid G) (L : Laws G A) (cells : ℕ → ℕ → Option Action) (exact : Exact G A cells) (l : Line) (st : Standing G A l) where
  many_full : (w : ℕ) → runs G A cells (768 - length l.rules) w l.states ≡ full → FewReductions G A (l.words ++ w ∷ []) → ⊥
  many_full w e few = overfull v L cells exact l w st few (subst (λ o. Says G A (768 - length l.rules) w l.states o) e (says G A cells exact (768 - length l.rules) w l.states))

  judged_end_13 : (o : Ended) → after_judging l o ≡ refused 13 → o ≡ full
  judged_end_13 stuck e = cc
  judged_end_13 full e = refl
  judged_end_13 (shifted τ ps) e = cc
  judged_end_13 (accepted τ ps) e = cc

  -- Judging refused with 13: a run over the line's words and the end mark makes a 769th reduction.
  pub judged_13_many : judge_line G A cells l ≡ refused 13 → FewReductions G A (l.words ++ 0 ∷ []) → ⊥
  judged_13_many e = many_full 0 (judged_end_13 (runs G A cells (768 - length l.rules) 0 l.states) e)

  judged_end_14 : (o : Ended) → after_judging l o ≡ refused 14 → o ≡ full → ⊥
  judged_end_14 o e f = let z : ◌≡◌ {A = ℕ} 13 14 = same_cause (sym (ap (after_judging l) f) ∙ e) in omega arith

  -- Judging refused with 14: no run over the line's words and the end mark makes a 769th reduction.
  pub judged_14_few : judge_line G A cells l ≡ refused 14 → FewReductions G A (l.words ++ 0 ∷ [])
  judged_14_few e = few_room cells exact l st 0 (judged_end_14 (runs G A cells (768 - length l.rules) 0 l.states) e)

  word_end_14 : (w : ℕ) (o : Ended) → after_word l w o ≡ refused 14 → o ≡ full → ⊥
  word_end_14 w o e f = let z : ◌≡◌ {A = ℕ} 13 14 = same_cause (sym (ap (after_word l w) f) ∙ e) in omega arith

  -- A word refused with 14: no run over the line's words and it makes a 769th reduction.
  pub word_14_few : (w : ℕ) → take_word G A cells l w ≡ refused 14 → FewReductions G A (l.words ++ w ∷ [])
  word_14_few w e = few_room cells exact l st w (word_end_14 w (runs G A cells (768 - length l.rules) w l.states) (machine_says G A cells l w e (λ z. cc) (λ z. cc)).1)
