-- An open line is judged good exactly when its words are a sentence of at most 768 derivation steps.
use Rattle.std.proofs.Common.{◌≡◌, ℕ, ◌+◌, ◌-◌, ◌<◌, ◌≤◌, List, [], ◌∷◌, ◌++◌, reverse, length, sym, refl, ap, ◌∙◌, subst, append_assoc, append-nil, arith, length-append, Option}
use lib.ListN.{length-reverse}
use Rattle.grammar.specs.Grammar.{Grammar, Valid}
use Rattle.grammar.specs.Derivation.{Derives, ShortSentence}
use Rattle.grammar.specs.States.{Automaton, Laws}
use Rattle.grammar.specs.Cells.{Exact}
use Rattle.grammar.specs.Machine.{Accepts, AcceptsWords}
use Rattle.grammar.specs.Line.{Line, Ended, stuck, full, shifted, accepted, runs, after, after_judging, judge_line}
use Rattle.grammar.specs.declared.action.Action.{Action}
use Rattle.grammar.proofs.Runs.{then_accepts, along}
use Rattle.grammar.proofs.Sentences.{accepts_derivation, derivation_accepted}
use Rattle.grammar.proofs.MachineEnds.{Says, says, Agrees, agrees, conflict_free}
use Rattle.grammar.proofs.OpenLines.{Standing, same_line}

module _ {G : Grammar} {A : Automaton} (v : Valid G) (L : Laws G A) (cells : ℕ → ℕ → Option Action) (exact : Exact G A cells) (l : Line) (st : Standing G A l) where
  -- A derivation of the line's words and more is accepted from where the line stands; the line's rules are the last of it.
  pub rest : (z ds : List ℕ) → Derives G ds (l.words ++ z) → (qs : List ℕ) × (reverse ds ≡ l.rules ++ qs) × Accepts G A l.states (z ++ 0 ∷ []) qs
  rest z ds d =
      let x : Accepts G A (0 ∷ []) (l.words ++ (z ++ 0 ∷ [])) (reverse ds) = rw append_assoc at (accepts_derivation v L ds (l.words ++ z) d) in
      along (conflict_free G A cells exact) (st.run (z ++ 0 ∷ [])) x

  pub rest_end : (ds : List ℕ) → Derives G ds l.words → (qs : List ℕ) × (reverse ds ≡ l.rules ++ qs) × Accepts G A l.states (0 ∷ []) qs
  rest_end ds d = rest [] ds (subst (λ ws. Derives G ds ws) (sym (append-nil l.words)) d)

  too_long : (ds qs : List ℕ) → reverse ds ≡ l.rules ++ qs → length ds ≤ 768 → 768 - length l.rules < length qs → ⊥
  too_long ds qs e h k =
      let a : length ds ≡ length l.rules + length qs = sym (length-reverse ds) ∙ ap length e ∙ length-append l.rules qs in
      omega arith

  ended_good : {m : Line} (o : Ended) → Says G A (768 - length l.rules) 0 l.states o → after_judging l o ≡ after m → AcceptsWords G A l.words m.rules × (length m.rules ≤ 768)
  ended_good stuck s e = cc
  ended_good full s e = cc
  ended_good (shifted τ ps) s e = cc
  ended_good (accepted τ ps) s e =
      let short : length (l.rules ++ ps) ≤ 768 = rw length-append (omega (arith, s.2, st.few_rules)) in
      subst (λ m. AcceptsWords G A l.words m.rules × (length m.rules ≤ 768)) (same_line e) (then_accepts (st.run (0 ∷ [])) s.1, short)

  good_ended : (ds qs : List ℕ) → reverse ds ≡ l.rules ++ qs → length ds ≤ 768 → (o : Ended) → Agrees G A (768 - length l.rules) [] qs o → (m : Line) × (after_judging l o ≡ after m)
  good_ended ds qs e h stuck x = absurd x
  good_ended ds qs e h full x = absurd (too_long ds qs e h x)
  good_ended ds qs e h (shifted τ ps) x = absurd (x refl)
  good_ended ds qs e h (accepted τ ps) x = (record { states = τ; words = l.words; rules = l.rules ++ ps }, refl)

  -- What a line judged good says: its words are accepted with its rules.
  pub judged_accepts : (m : Line) → judge_line G A cells l ≡ after m → AcceptsWords G A l.words m.rules × (length m.rules ≤ 768)
  judged_accepts m e = ended_good (runs G A cells (768 - length l.rules) 0 l.states) (says G A cells exact (768 - length l.rules) 0 l.states) e

  pub judged_rules : (m : Line) → judge_line G A cells l ≡ after m → Derives G (reverse m.rules) l.words
  judged_rules m e = derivation_accepted v L l.words m.rules (judged_accepts m e).0

  pub judged_short : (m : Line) → judge_line G A cells l ≡ after m → ShortSentence G l.words
  judged_short m e = (reverse m.rules, judged_rules m e, rw length-reverse (judged_accepts m e).1)

  pub short_judged : ShortSentence G l.words → (m : Line) × (judge_line G A cells l ≡ after m)
  short_judged s =
      let r = rest_end s.0 s.1 in
      good_ended s.0 r.0 r.1 s.2 (runs G A cells (768 - length l.rules) 0 l.states) (agrees G A cells exact (768 - length l.rules) r.2)
