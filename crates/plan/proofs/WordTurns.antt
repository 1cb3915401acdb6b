-- Words brought to lines.
use Rattle.std.proofs.Common.{◌≡◌, ℕ, ◌+◌, ◌-◌, ◌<◌, Bool, true, false, cond, not, ltb, leb, List, [], ◌∷◌, ◌++◌, length, sym, refl, ap, ap₂, ◌∙◌, subst, append-nil, arith, length-append, leb-false, leb-true, Option}
use borrow.Author.Tests.{not-true, not-false, both_ways}
use Rattle.std.proofs.lemmas.Bool.{cond_both, and_parts}
use Rattle.grammar.specs.Grammar.{Grammar, Valid, IsTerminal}
use Rattle.grammar.specs.Trees.{AllProductive}
use Rattle.grammar.specs.States.{Automaton, Laws}
use Rattle.grammar.specs.Cells.{Exact}
use Rattle.grammar.specs.Derivation.{is_terminal}
use Rattle.grammar.specs.Machine.{Run}
use Rattle.grammar.specs.Line.{Line, Ended, stuck, full, shifted, accepted, runs, Turned, after, after_word, take_word}
use Rattle.grammar.specs.declared.action.Action.{Action}
use Rattle.grammar.proofs.Lawful.{lawful_states}
use Rattle.grammar.proofs.FormSteps.{is_terminal_lem}
use Rattle.grammar.proofs.OpenLines.{Standing, standing_taken, not_after}
use Rattle.grammar.proofs.TakenWords.{words_after, begins_taken, taken_begins}
use Rattle.grammar.proofs.RefusedTurns.{rules_counted, taken_few, word_13, word_14}
use Rattle.grammar.proofs.FullTurns.{word_14_few}
use Rattle.grammar.proofs.TurnEffects.{word_rules}
use Rattle.line.specs.Answers.{Answer, given, refused}
use Rattle.plan.specs.Turns.{Turn, word}
use Rattle.plan.specs.Account.{AccountLine, account, with_line, line_of}
use Rattle.plan.specs.RightAnswers.{Ready, Unready, no_designer, other_status, Reductions, WordCause, unready, line_full, no_terminal, too_many, no_sentence, RightWord, RightTurn}
use Rattle.tables.specs.Held.{holding}
use Rattle.line.specs.Steps.{Step, refused as not_done}
use Rattle.line.specs.LineTurns.{word_turned}
use Rattle.plan.specs.Model.{Model, PlanLine, plan_line}
use Rattle.plan.specs.Steps.{Stepped, placed, refusing, word_step}
use Rattle.plan.specs.Shows.{account_line, Shows, Stands}
use Rattle.plan.proofs.Continuing.{TablesOf, Continues}
use Rattle.plan.proofs.Unreadiness.{not_ready, high_designer, low_designer}
use Rattle.plan.proofs.TableRuns.{run_told, run_holding, few_told, few_holding, behind_told, behind_holding}
use Rattle.plan.proofs.ShownTurns.{line_shown, shown_same, shown_line}

-- No word that the test refuses is a terminal, and each other is.
test_refuses : (G : Grammar) (w : ℕ) → not (is_terminal G w) ≡ true → IsTerminal G w → ⊥
test_refuses G w e i = both_ways (is_terminal G w) (not-true (is_terminal G w) e) (is_terminal_lem G w i)

test_passes : (G : Grammar) (w : ℕ) → not (is_terminal G w) ≡ false → IsTerminal G w
test_passes G w e =
    let y = and_parts (leb 1 w) (leb w G.terminals) (not-false (is_terminal G w) e) in
    record { low = leb-true 1 w y.0; high = leb-true w G.terminals y.1 }

-- Not ready for a word.
word_unready : {G : Grammar} {goto : ℕ → ℕ → Option ℕ} {cells : ℕ → ℕ → Option Action} (d w : ℕ) {l : AccountLine} {c : ℕ} → Unready false d l c → RightWord G goto cells d w l (refused c)
word_unready d w {l} u = record { taken = (λ y. absurd y, λ y. not_ready u y.0); count = λ n e. cc; cause = λ n e. unready (subst (λ i. Unready false d l i) (cc) u) }

module _ {G : Grammar} {A : Automaton} (v : Valid G) (L : Laws G A) (p : AllProductive G) (cells : ℕ → ℕ → Option Action) (exact : Exact G A cells) (d w : ℕ) (l : Line) (st : Standing G A l) (j : Bool) (ready : Ready false d (record { judged = j; words = l.words })) where
  abbrev Seen : AccountLine
  Seen = record { judged = j; words = l.words }

  cause_14 : length l.words < 256 → IsTerminal G w → take_word G A cells l w ≡ Turned.refused 14 → WordCause G A.goto cells d w Seen 14
  cause_14 h i e = no_sentence ready h i (few_told G A cells exact (word_14_few v L cells exact l st w e)) (word_14 v L cells exact l st w e)

  -- The cause, by the tests and by how the machine ends at the word.
  word_cause : (a b : Bool) (end : Ended) → leb 256 (length l.words) ≡ a → not (is_terminal G w) ≡ b → take_word G A cells l w ≡ cond a (Turned.refused 11) (cond b (Turned.refused 12) (after_word l w end)) → (c : ℕ) → take_word G A cells l w ≡ Turned.refused c → WordCause G A.goto cells d w Seen c
  word_cause true b end f g x c e = subst (λ i. WordCause G A.goto cells d w Seen i) (cc) (line_full ready (leb-true 256 (length l.words) f))
  word_cause false true end f g x c e = subst (λ i. WordCause G A.goto cells d w Seen i) (cc) (no_terminal ready (leb-false 256 (length l.words) f) (test_refuses G w g))
  word_cause false false stuck f g x c e = subst (λ i. WordCause G A.goto cells d w Seen i) (cc) (cause_14 (leb-false 256 (length l.words) f) (test_passes G w g) x)
  word_cause false false (accepted τ ps) f g x c e = subst (λ i. WordCause G A.goto cells d w Seen i) (cc) (cause_14 (leb-false 256 (length l.words) f) (test_passes G w g) x)
  word_cause false false full f g x c e = subst (λ i. WordCause G A.goto cells d w Seen i) (cc) (too_many ready (leb-false 256 (length l.words) f) (test_passes G w g) λ f. word_13 v L cells exact l st w x (few_holding G A cells exact f))
  word_cause false false (shifted τ ps) f g x c e = absurd (not_after (sym e ∙ x))

  word_refused : (c : ℕ) → take_word G A cells l w ≡ Turned.refused c → RightWord G A.goto cells d w Seen (refused c)
  word_refused c e =
      record {
        taken = (λ y. absurd y, λ y. not_after (sym e ∙ (begins_taken v L cells exact l w st y.1 (few_holding G A cells exact y.2) y.3).1));
        count = λ n x. cc;
        cause = λ n x. subst (λ i. WordCause G A.goto cells d w Seen i) (cc) (word_cause (leb 256 (length l.words)) (not (is_terminal G w)) (runs G A cells (768 - length l.rules) w l.states) refl refl refl c e);
      }

  module _ (k : Line) (e : take_word G A cells l w ≡ after k) where
    -- The reductions of the turn are what the line has noted more.
    counted : Reductions G A.goto cells l.words w (length k.rules - length l.rules)
    counted =
        let y = word_rules cells exact l k w e in
        let long : length k.rules ≡ length l.rules + length y.rules = ap length y.behind ∙ length-append l.rules y.rules in
        record {
          rules = l.rules;
          states = l.states;
          run = run_told G A cells exact (subst (λ i. Run G A (0 ∷ []) i l.rules l.states []) (append-nil l.words) (st.run []));
          rules_on = y.rules;
          states_on = k.states;
          run_on = run_told G A cells exact y.run;
          count = omega (arith, long);
          every = λ ps qs σ τ r q.
              let q' : Run G A (0 ∷ []) k.words qs τ [] = subst (λ ws. Run G A (0 ∷ []) ws qs τ []) (sym (words_after G A cells l k w e)) (run_holding G A cells exact q) in
              omega (arith, long, rules_counted cells exact l st (run_holding G A cells exact r), rules_counted cells exact k (standing_taken G A cells exact w st e) q');
        }

    word_taken : RightWord G A.goto cells d w Seen (given (length k.rules - length l.rules))
    word_taken =
        let few : length l.words < 256 = omega (arith, (standing_taken G A cells exact w st e).few_words, ap length (words_after G A cells l k w e), length-append l.words (w ∷ [])) in
        record {
          taken = (λ y. (ready, few, few_told G A cells exact (taken_few cells exact l k w (standing_taken G A cells exact w st e) e), taken_begins v L p cells exact l k w (standing_taken G A cells exact w st e) e), λ y. tt);
          count = λ n x. subst (λ i. Reductions G A.goto cells l.words w i) (cc) counted;
          cause = λ n x. cc;
        }

module _ (G : Grammar) (n : ℕ) (A : Automaton) (cells : ℕ → ℕ → Option Action) (T : TablesOf G n A cells) {turns : List Turn} {b₀ : List ℕ} {n₀ : ℕ} {m : Model} {list : List ℕ} {free : ℕ} (s : Shows G A.goto cells turns b₀ n₀ m list free) (d w : ℕ) where
  abbrev Brought : Stepped ℕ → Type 0
  Brought x = Shows G A.goto cells (turns ++ word d w x.answer ∷ []) b₀ n₀ x.next list free

  right : (x : Answer ℕ) → RightWord G A.goto cells d w (account_line (plan_line m d)) x → RightTurn G A.goto cells n₀ (account turns) (word d w x)
  right x r = subst (λ l. RightWord G A.goto cells d w l x) (sym (line_shown G A cells s d)) r

  word_line : Standing G A (plan_line m d).line → Ready false d (account_line (plan_line m d)) → (t : Turned) → take_word G A cells (plan_line m d).line w ≡ t → Brought (placed m d (word_turned (plan_line m d).line t))
  word_line o y (Turned.refused c) e = shown_same G A cells s (word d w (refused c)) (right _ (word_refused T.given.valid (lawful_states G n A T.given.numbered) T.productive cells T.exact d w (plan_line m d).line o (plan_line m d).judged y c e)) refl
  word_line o y (after k) e =
      let l = (plan_line m d).line in
      let words : k.words ≡ (line_of (account turns) d).words ++ w ∷ [] = words_after G A cells l k w e ∙ sym (ap (λ i. i.words ++ w ∷ []) (line_shown G A cells s d)) in
      shown_line G A cells s (word d w _) (right _ (word_taken T.given.valid (lawful_states G n A T.given.numbered) T.productive cells T.exact d w l o (plan_line m d).judged y k e)) d (record { judged = false; line = k }) (behind_told G A cells T.exact (standing_taken G A cells T.exact w o e))
      (ap₂ (λ j ws. with_line (account turns) d (record { judged = j; words = ws })) (sym (ap (λ i. i.judged) (line_shown G A cells s d) ∙ y.status)) words)

  pub word_shown : Brought (word_step (holding G n A cells) m d w)
  word_shown =
      let p = plan_line m d in
      let no : (c : ℕ) → Unready false d (account_line p) c → Brought (refusing m c) = λ c u. shown_same G A cells s (word d w (refused c)) (right _ (word_unready d w u)) refl in
      cond_both (ltb 7 d) _ _ Brought (λ e. no 9 (no_designer (high_designer d e))) (λ e.
      cond_both p.judged (not_done 10) _ (λ (t : Step PlanLine ℕ). Brought (placed m d t)) (λ f. no 10 (other_status (low_designer d e) f)) (λ f.
      word_line (behind_holding G A cells T.exact (subst (λ i. Stands G A.goto cells i p.line) f (s.stands d))) (record { designer_low = low_designer d e; status = f }) (take_word G A cells p.line w) refl))

pub word_continues : (G : Grammar) (n : ℕ) (A : Automaton) (cells : ℕ → ℕ → Option Action) → TablesOf G n A cells → (m : Model) (list : List ℕ) (free : ℕ) (d w : ℕ) (x : Answer ℕ) (m' : Model) → word_step (holding G n A cells) m d w ≡ record { answer = x; next = m' } → Continues G A cells m list free (word d w x) m' list free
word_continues G n A cells T m list free d w x m' e turns b₀ n₀ s = subst (Brought G n A cells T s d w) e (word_shown G n A cells T s d w)
