-- Lines judged.
use Rattle.std.proofs.Common.{◌≡◌, ℕ, ◌-◌, Bool, true, false, ltb, List, [], ◌∷◌, ◌++◌, reverse, length, sym, refl, ap, ◌∙◌, subst, Option}
use lib.ListN.{length-reverse}
use Rattle.std.proofs.lemmas.Bool.{cond_both}
use Rattle.grammar.specs.Grammar.{Grammar, Valid}
use Rattle.grammar.specs.States.{Automaton, Laws}
use Rattle.grammar.specs.Cells.{Exact}
use Rattle.grammar.specs.Derivation.{Derives}
use Rattle.grammar.specs.Line.{Line, Ended, stuck, full, shifted, accepted, runs, Turned, after, after_judging, judge_line}
use Rattle.grammar.specs.declared.action.Action.{Action}
use Rattle.grammar.proofs.Lawful.{lawful_states}
use Rattle.grammar.proofs.MachineEnds.{conflict_free}
use Rattle.grammar.proofs.Sentences.{one_derivation}
use Rattle.grammar.proofs.OpenLines.{Standing, not_after}
use Rattle.grammar.proofs.JudgedLines.{judged_rules, judged_short, short_judged}
use Rattle.grammar.proofs.RefusedTurns.{judged_14}
use Rattle.grammar.proofs.FullTurns.{judged_13_many, judged_14_few}
use Rattle.grammar.proofs.TurnEffects.{judged_words}
use Rattle.line.specs.Answers.{Answer, given, refused}
use Rattle.plan.specs.Turns.{SlipModel, Turn, judge}
use Rattle.plan.specs.Account.{AccountLine, account, with_line, line_of}
use Rattle.plan.specs.RightAnswers.{Ready, Unready, no_designer, other_status, JudgeCause, unready, too_many, no_sentence, RightJudge, RightTurn}
use Rattle.tables.specs.Held.{holding}
use Rattle.line.specs.Steps.{Step, refused as not_done}
use Rattle.line.specs.LineTurns.{judge_turned}
use Rattle.plan.specs.Model.{Model, PlanLine, plan_line}
use Rattle.plan.specs.Steps.{Stepped, placed, refusing, slipped, judge_step}
use Rattle.plan.specs.Shows.{account_line, Shows, Stands}
use Rattle.plan.proofs.Continuing.{TablesOf, Continues}
use Rattle.plan.proofs.Unreadiness.{not_ready, high_designer, low_designer}
use Rattle.plan.proofs.TableRuns.{few_told, few_holding, behind_holding}
use Rattle.plan.proofs.ShownTurns.{line_shown, shown_same, shown_line}

-- Not ready to be judged.
judge_unready : {G : Grammar} {goto : ℕ → ℕ → Option ℕ} {cells : ℕ → ℕ → Option Action} (d : ℕ) {l : AccountLine} {c : ℕ} → Unready false d l c → RightJudge G goto cells d l (refused c)
judge_unready d {l} u = record { good = (λ y. absurd y, λ y. not_ready u y.0); slip = λ p ds e y. cc; cause = λ n e. unready (subst (λ i. Unready false d l i) (cc) u) }

module _ {G : Grammar} {A : Automaton} (v : Valid G) (L : Laws G A) (cells : ℕ → ℕ → Option Action) (exact : Exact G A cells) (d : ℕ) where
  module _ (l : Line) (st : Standing G A l) (j : Bool) (ready : Ready false d (record { judged = j; words = l.words })) where
    abbrev Seen : AccountLine
    Seen = record { judged = j; words = l.words }

    -- The cause, by how the machine ends at the end mark.
    judge_cause : (end : Ended) → judge_line G A cells l ≡ after_judging l end → (c : ℕ) → judge_line G A cells l ≡ Turned.refused c → JudgeCause G A.goto cells d Seen c
    judge_cause stuck w c e =
        subst (λ i. JudgeCause G A.goto cells d Seen i) (cc) (no_sentence ready (few_told G A cells exact (judged_14_few v L cells exact l st w)) (judged_14 v L cells exact l st w))
    judge_cause (shifted τ ps) w c e =
        subst (λ i. JudgeCause G A.goto cells d Seen i) (cc) (no_sentence ready (few_told G A cells exact (judged_14_few v L cells exact l st w)) (judged_14 v L cells exact l st w))
    judge_cause full w c e = subst (λ i. JudgeCause G A.goto cells d Seen i) (cc) (too_many ready λ f. judged_13_many v L cells exact l st w (few_holding G A cells exact f))
    judge_cause (accepted τ ps) w c e = absurd (not_after (sym e ∙ w))

    judge_refused : (c : ℕ) → judge_line G A cells l ≡ Turned.refused c → RightJudge G A.goto cells d Seen (refused c)
    judge_refused c e =
        record {
          good = (λ y. absurd y, λ y. not_after (sym e ∙ (short_judged v L cells exact l st y.1).1));
          slip = λ p ds x y. cc;
          cause = λ n x. subst (λ i. JudgeCause G A.goto cells d Seen i) (cc) (judge_cause (runs G A cells (768 - length l.rules) 0 l.states) refl c e);
        }

    judge_good : (k : Line) → judge_line G A cells l ≡ after k → RightJudge G A.goto cells d Seen (given (record { designer = d; words = length k.words; steps = length k.rules }))
    judge_good k e =
        let steps : (ds : List ℕ) → Derives G ds l.words → length k.rules ≡ length ds = λ ds y. sym (ap length (one_derivation v L (conflict_free G A cells exact) l.words ds (reverse k.rules) y (judged_rules v L cells exact l st k e)) ∙ length-reverse k.rules) in
        record {
          good = (λ y. (ready, judged_short v L cells exact l st k e), λ y. tt);
          slip = λ p ds x y. let w = judged_words G A cells l k e in let n = steps ds y in cc;
          cause = λ n x. cc;
        }

module _ (G : Grammar) (n : ℕ) (A : Automaton) (cells : ℕ → ℕ → Option Action) (T : TablesOf G n A cells) {turns : List Turn} {b₀ : List ℕ} {n₀ : ℕ} {m : Model} {list : List ℕ} {free : ℕ} (s : Shows G A.goto cells turns b₀ n₀ m list free) (d : ℕ) where
  abbrev Judged : Stepped SlipModel → Type 0
  Judged x = Shows G A.goto cells (turns ++ judge d x.answer ∷ []) b₀ n₀ x.next list free

  right : (x : Answer SlipModel) → RightJudge G A.goto cells d (account_line (plan_line m d)) x → RightTurn G A.goto cells n₀ (account turns) (judge d x)
  right x r = subst (λ l. RightJudge G A.goto cells d l x) (sym (line_shown G A cells s d)) r

  judged_line : Standing G A (plan_line m d).line → Ready false d (account_line (plan_line m d)) → (t : Turned) → judge_line G A cells (plan_line m d).line ≡ t → Judged (placed m d (slipped d (judge_turned t)))
  judged_line o y (Turned.refused c) e = shown_same G A cells s (judge d (refused c)) (right _ (judge_refused T.given.valid (lawful_states G n A T.given.numbered) cells T.exact d (plan_line m d).line o (plan_line m d).judged y c e)) refl
  judged_line o y (after k) e =
      let l = (plan_line m d).line in
      let words : k.words ≡ (line_of (account turns) d).words = judged_words G A cells l k e ∙ sym (ap (λ i. i.words) (line_shown G A cells s d)) in
      shown_line G A cells s (judge d _) (right _ (judge_good T.given.valid (lawful_states G n A T.given.numbered) cells T.exact d l o (plan_line m d).judged y k e)) d (record { judged = true; line = k }) (subst (λ ws. Derives G (reverse k.rules) ws) (sym (judged_words G A cells l k e)) (judged_rules T.given.valid (lawful_states G n A T.given.numbered) cells T.exact l o k e))
      (ap (λ ws. with_line (account turns) d (record { judged = true; words = ws })) words)

  pub judge_shown : Judged (judge_step (holding G n A cells) m d)
  judge_shown =
      let p = plan_line m d in
      let no : (c : ℕ) → Unready false d (account_line p) c → Judged (refusing m c) = λ c u. shown_same G A cells s (judge d (refused c)) (right _ (judge_unready d u)) refl in
      cond_both (ltb 7 d) _ _ Judged (λ e. no 9 (no_designer (high_designer d e))) (λ e.
      cond_both p.judged (not_done 10) _ (λ (t : Step PlanLine (ℕ × ℕ)). Judged (placed m d (slipped d t))) (λ f. no 10 (other_status (low_designer d e) f)) (λ f.
      judged_line (behind_holding G A cells T.exact (subst (λ j. Stands G A.goto cells j p.line) f (s.stands d))) (record { designer_low = low_designer d e; status = f }) (judge_line G A cells p.line) refl))

pub judge_continues : (G : Grammar) (n : ℕ) (A : Automaton) (cells : ℕ → ℕ → Option Action) → TablesOf G n A cells → (m : Model) (list : List ℕ) (free : ℕ) (d : ℕ) (x : Answer SlipModel) (m' : Model) → judge_step (holding G n A cells) m d ≡ record { answer = x; next = m' } → Continues G A cells m list free (judge d x) m' list free
judge_continues G n A cells T m list free d x m' e turns b₀ n₀ s = subst (Judged G n A cells T s d) e (judge_shown G n A cells T s d)
