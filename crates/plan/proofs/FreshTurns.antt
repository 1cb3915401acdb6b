-- Lines withdrawn or cleared.
use Rattle.std.proofs.Common.{◌≡◌, ℕ, Bool, true, false, ltb, List, [], ◌∷◌, ◌++◌, sym, refl, subst, Option}
use Rattle.std.proofs.lemmas.Bool.{cond_both}
use Rattle.grammar.specs.Grammar.{Grammar}
use Rattle.grammar.specs.States.{Automaton}
use Rattle.grammar.specs.declared.action.Action.{Action}
use Rattle.line.specs.Answers.{Answer, given, refused}
use Rattle.plan.specs.Turns.{SlipModel, Turn, withdraw, clear}
use Rattle.plan.specs.Account.{AccountLine}
use Rattle.plan.specs.RightAnswers.{Ready, Unready, no_designer, other_status, RightFresh}
use Rattle.line.specs.PlanLines.{fresh_plan_line}
use Rattle.tables.specs.Held.{holding}
use Rattle.line.specs.Steps.{Step, done, refused as not_done}
use Rattle.plan.specs.Model.{Model, PlanLine, plan_line}
use Rattle.plan.specs.Steps.{Stepped, placed, refusing, withdraw_step, clear_step}
use Rattle.plan.specs.Shows.{account_line, Shows}
use Rattle.plan.proofs.Continuing.{Continues}
use Rattle.plan.proofs.TableRuns.{fresh_behind}
use Rattle.plan.proofs.Unreadiness.{not_ready, high_designer, low_designer}
use Rattle.plan.proofs.ShownTurns.{line_shown, shown_same, shown_line}

module _ {j : Bool} {d : ℕ} {l k : AccountLine} (e : l ≡ k) where
  right_refused : {c : ℕ} → Unready j d k c → RightFresh j d l (refused c)
  right_refused {c} u =
      subst (λ i. RightFresh j d i (refused c)) (sym e)
      (record { done = (λ y. absurd y, λ y. not_ready u y); cause = λ n x. subst (λ i. Unready j d k i) (cc) u })

  right_done : Ready j d k → RightFresh j d l (given tt)
  right_done y = subst (λ i. RightFresh j d i (given tt)) (sym e) (record { done = (λ x. y, λ x. tt); cause = λ c x. cc })

module _ (G : Grammar) (A : Automaton) (cells : ℕ → ℕ → Option Action) {turns : List Turn} {b₀ : List ℕ} {n₀ : ℕ} {m : Model} {list : List ℕ} {free : ℕ} (s : Shows G A.goto cells turns b₀ n₀ m list free) where
  abbrev Withdrawn : SlipModel → Stepped (Unit {0}) → Type 0
  Withdrawn p x = Shows G A.goto cells (turns ++ withdraw p x.answer ∷ []) b₀ n₀ x.next list free

  pub withdraw_shown : (n : ℕ) (p : SlipModel) → Withdrawn p (withdraw_step (holding G n A cells) m p.designer)
  withdraw_shown n p =
      let d = p.designer in
      let here = line_shown G A cells s d in
      let no : (c : ℕ) → Unready true d (account_line (plan_line m d)) c → Withdrawn p (refusing m c) = λ c u. shown_same G A cells s (withdraw p (refused c)) (right_refused here u) refl in
      cond_both (ltb 7 d) _ _ (Withdrawn p) (λ e. no 9 (no_designer (high_designer d e))) (λ e.
      cond_both (plan_line m d).judged (done tt fresh_plan_line) (not_done 10) (λ (t : Step PlanLine (Unit {0})). Withdrawn p (placed m d t)) (λ f.
      shown_line G A cells s (withdraw p (given tt)) (right_done here (record { designer_low = low_designer d e; status = f })) d fresh_plan_line (fresh_behind G A.goto cells) refl) (λ f.
      no 10 (other_status (low_designer d e) f)))

  abbrev Cleared : ℕ → Stepped (Unit {0}) → Type 0
  Cleared d x = Shows G A.goto cells (turns ++ clear d x.answer ∷ []) b₀ n₀ x.next list free

  pub clear_shown : (n d : ℕ) → Cleared d (clear_step (holding G n A cells) m d)
  clear_shown n d =
      let here = line_shown G A cells s d in
      let no : (c : ℕ) → Unready false d (account_line (plan_line m d)) c → Cleared d (refusing m c) = λ c u. shown_same G A cells s (clear d (refused c)) (right_refused here u) refl in
      cond_both (ltb 7 d) _ _ (Cleared d) (λ e. no 9 (no_designer (high_designer d e))) (λ e.
      cond_both (plan_line m d).judged (not_done 10) (done tt fresh_plan_line) (λ (t : Step PlanLine (Unit {0})). Cleared d (placed m d t)) (λ f. no 10 (other_status (low_designer d e) f)) (λ f.
      shown_line G A cells s (clear d (given tt)) (right_done here (record { designer_low = low_designer d e; status = f })) d fresh_plan_line (fresh_behind G A.goto cells) refl))

-- The steps of the two calls, by what they answer and leave.
pub withdraw_continues : (G : Grammar) (n : ℕ) (A : Automaton) (cells : ℕ → ℕ → Option Action) (m : Model) (list : List ℕ) (free : ℕ) (p : SlipModel) (x : Answer (Unit {0})) (m' : Model) → withdraw_step (holding G n A cells) m p.designer ≡ record { answer = x; next = m' } → Continues G A cells m list free (withdraw p x) m' list free
withdraw_continues G n A cells m list free p x m' e turns b₀ n₀ s = subst (Withdrawn G A cells s p) e (withdraw_shown G A cells s n p)

pub clear_continues : (G : Grammar) (n : ℕ) (A : Automaton) (cells : ℕ → ℕ → Option Action) (m : Model) (list : List ℕ) (free : ℕ) (d : ℕ) (x : Answer (Unit {0})) (m' : Model) → clear_step (holding G n A cells) m d ≡ record { answer = x; next = m' } → Continues G A cells m list free (clear d x) m' list free
clear_continues G n A cells m list free d x m' e turns b₀ n₀ s = subst (Cleared G A cells s d) e (clear_shown G A cells s n d)
