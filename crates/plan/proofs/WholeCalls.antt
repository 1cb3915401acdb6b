-- Words brought one by one, and the line judged behind them.
use Rattle.std.proofs.Common.{◌≡◌, ℕ, ◌+◌, ◌<◌, ◌≤◌, List, length, get_or, drop, ap, ◌∙◌, subst}
use Rattle.std.proofs.lemmas.List.{at_drop_more, at_drop_all}
use Rattle.tables.specs.declared.tables.Tables.{Tables}
use Rattle.tables.specs.Building.{held}
use Rattle.tables.specs.Held.{Held}
use Rattle.line.specs.Answers.{Answer, given, refused}
use Rattle.plan.specs.Turns.{SlipModel}
use Rattle.plan.specs.Steps.{Stepped, word_step, judge_step}
use Rattle.plan.specs.Plans.{PlanValue}
use Rattle.plan.specs.WholeCalls.{unless_refused, words_call, judging_call}

-- The words before a place are taken by a plan with the same tables, and what is left of them comes next.
module _ {B : Type 0} (p q r : PlanValue B) (same : q.tables ≡ p.tables) (d : ℕ) (ws : List ℕ) (i : ℕ) (e : words_call (held p.tables) p.model d ws ≡ words_call (held p.tables) q.model d (drop i ws)) where
  abbrev H : Held
  H = held p.tables

  module _ (low : i < length ws) where
    word_behind : (x : Answer ℕ) → word_step (held q.tables) q.model d (get_or ws i 0) ≡ record { answer = x; next = r.model } → words_call H p.model d ws ≡ unless_refused x r.model (λ k. words_call H k d (drop (i + 1) ws))
    word_behind x f =
        let f' = subst (λ (t : Tables). word_step (held t) q.model d (get_or ws i 0) ≡ record { answer = x; next = r.model }) same f in
        e ∙ at_drop_more (λ l. words_call H q.model d l) ws i 0 low ∙ ap (λ (t : Stepped ℕ). unless_refused t.answer t.next (λ k. words_call H k d (drop (i + 1) ws))) f'

    pub words_more : (n : ℕ) → word_step (held q.tables) q.model d (get_or ws i 0) ≡ record { answer = given n; next = r.model } → words_call H p.model d ws ≡ words_call H r.model d (drop (i + 1) ws)
    words_more n f = word_behind (given n) f

    pub words_refused : (c : ℕ) → word_step (held q.tables) q.model d (get_or ws i 0) ≡ record { answer = refused c; next = r.model } → judging_call H p.model d ws ≡ record { answer = refused c; next = r.model }
    words_refused c f = ap (λ (t : Stepped (Unit {0})). unless_refused t.answer t.next (λ k. judge_step H k d)) (word_behind (refused c) f)

  pub words_judged : length ws ≤ i → (x : Answer SlipModel) → judge_step (held q.tables) q.model d ≡ record { answer = x; next = r.model } → judging_call H p.model d ws ≡ record { answer = x; next = r.model }
  words_judged high x f =
      ap (λ (t : Stepped (Unit {0})). unless_refused t.answer t.next (λ k. judge_step H k d)) (e ∙ at_drop_all (λ l. words_call H q.model d l) ws i high)
      ∙ subst (λ (t : Tables). judge_step (held t) q.model d ≡ record { answer = x; next = r.model }) same f
