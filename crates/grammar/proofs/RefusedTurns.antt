-- What turns of an open line say beyond being taken or judged good: 14 that no sentence goes on so, 13 that there is a 769th reduction.
use Rattle.std.proofs.Common.{◌≡◌, ℕ, ◌-◌, List, [], ◌∷◌, ◌++◌, length, sym, refl, ◌∙◌, subst, append_assoc, append-nil, arith, Option}
use Rattle.grammar.specs.Grammar.{Grammar, Valid}
use Rattle.grammar.specs.Derivation.{Derives, ShortSentence, Sentence, Begins}
use Rattle.grammar.specs.States.{Automaton, Laws}
use Rattle.grammar.specs.Cells.{Exact}
use Rattle.grammar.specs.Machine.{Run, FewReductions}
use Rattle.grammar.specs.Line.{Line, Ended, stuck, full, shifted, accepted, runs, after, refused, after_word, after_judging, take_word, judge_line}
use Rattle.grammar.specs.declared.action.Action.{Action}
use Rattle.grammar.proofs.Runs.{most_rules}
use Rattle.grammar.proofs.AcceptedPrefixes.{no_middle}
use Rattle.grammar.proofs.MachineEnds.{Says, says, Agrees, agrees, conflict_free}
use Rattle.grammar.proofs.OpenLines.{Standing, not_after, same_cause, machine_says}
use Rattle.grammar.proofs.JudgedLines.{rest, rest_end, short_judged}
use Rattle.grammar.proofs.TakenWords.{overfull, words_after}

module _ {G : Grammar} {A : Automaton} (cells : ℕ → ℕ → Option Action) (exact : Exact G A cells) where
  -- Every run over all of a line's words notes as many rules as the line has.
  pub rules_counted : (l : Line) → Standing G A l → {qs υ : List ℕ} → Run G A (0 ∷ []) l.words qs υ [] → length qs ≡ length l.rules
  rules_counted l st x =
      let free = conflict_free G A cells exact in
      let y : Run G A (0 ∷ []) l.words l.rules l.states [] = subst (λ i. Run G A (0 ∷ []) i l.rules l.states []) (append-nil l.words) (st.run []) in
      omega (arith, most_rules free x y, most_rules free y x)

  -- Over the words of a line and a word that it takes no run makes a 769th reduction.
  pub taken_few : (l m : Line) (w : ℕ) → Standing G A m → take_word G A cells l w ≡ after m → FewReductions G A (l.words ++ w ∷ [])
  taken_few l m w st e ps τ j r =
      let y : Run G A (0 ∷ []) (l.words ++ w ∷ []) m.rules m.states [] = subst (λ i. Run G A (0 ∷ []) i m.rules m.states []) (append-nil m.words ∙ words_after G A cells l m w e) (st.run []) in
      omega (arith, most_rules (conflict_free G A cells exact) y r, st.few_rules)

module _ {G : Grammar} {A : Automaton} (v : Valid G) (L : Laws G A) (cells : ℕ → ℕ → Option Action) (exact : Exact G A cells) (l : Line) (st : Standing G A l) where
  ended_none : (qs : List ℕ) (o : Ended) → Agrees G A (768 - length l.rules) [] qs o → after_judging l o ≡ refused 14 → ⊥
  ended_none qs stuck x e = x
  ended_none qs full x e = let z : ◌≡◌ {A = ℕ} 13 14 = same_cause e in omega arith
  ended_none qs (shifted τ ps) x e = x refl
  ended_none qs (accepted τ ps) x e = cc

  -- Judging refused with 14: the words are no sentence.
  pub judged_14 : judge_line G A cells l ≡ refused 14 → Sentence G l.words → ⊥
  judged_14 e d =
      let n = 768 - length l.rules in
      let r = rest_end v L cells exact l st d.0 d.1 in
      ended_none r.0 (runs G A cells n 0 l.states) (agrees G A cells exact n r.2) e

  -- Judging refused with 13: the words are no sentence of at most 768 derivation steps.
  pub judged_13 : judge_line G A cells l ≡ refused 13 → ShortSentence G l.words → ⊥
  judged_13 e d = not_after (sym e ∙ (short_judged v L cells exact l st d).1)

  word_none : (w : ℕ) (z qs : List ℕ) (o : Ended) → Agrees G A (768 - length l.rules) (z ++ 0 ∷ []) qs o → after_word l w o ≡ refused 14 → ⊥
  word_none w z qs stuck x e = x
  word_none w z qs full x e = let n : ◌≡◌ {A = ℕ} 13 14 = same_cause e in omega arith
  word_none w z qs (shifted τ ps) x e = cc
  word_none w z qs (accepted τ ps) x e = no_middle z 0 [] (sym x)

  -- A word refused with 14: no sentence begins with the line's words and it.
  pub word_14 : (w : ℕ) → take_word G A cells l w ≡ refused 14 → Begins G (l.words ++ w ∷ []) → ⊥
  word_14 w e b =
      let n = 768 - length l.rules in
      let r = rest v L cells exact l st (w ∷ b.0) b.1.0 (subst (λ ws. Derives G b.1.0 ws) (append_assoc l.words (w ∷ []) b.0) b.1.1) in
      word_none w b.0 r.0 (runs G A cells n w l.states) (agrees G A cells exact n r.2) (machine_says G A cells l w e (λ z. cc) (λ z. cc)).1

  word_full : (w : ℕ) (o : Ended) → Says G A (768 - length l.rules) w l.states o → after_word l w o ≡ refused 13 → FewReductions G A (l.words ++ w ∷ []) → ⊥
  word_full w stuck s e few = let n : ◌≡◌ {A = ℕ} 14 13 = same_cause e in omega arith
  word_full w full s e few = overfull v L cells exact l w st few s
  word_full w (shifted τ ps) s e few = cc
  word_full w (accepted τ ps) s e few = let n : ◌≡◌ {A = ℕ} 14 13 = same_cause e in omega arith

  -- A word refused with 13: a run over the line's words and it makes a 769th reduction.
  pub word_13 : (w : ℕ) → take_word G A cells l w ≡ refused 13 → FewReductions G A (l.words ++ w ∷ []) → ⊥
  word_13 w e few =
      let n = 768 - length l.rules in
      word_full w (runs G A cells n w l.states) (says G A cells exact n w l.states) (machine_says G A cells l w e (λ z. cc) (λ z. cc)).1 few
