-- Each call keeps the law, by its step.
use Rattle.std.proofs.Common.{◌≡◌, ℕ, ◌+◌, List, [], ◌∷◌, ◌++◌, length, sym, refl, subst, subst₂, append_assoc, append-nil, add-zero, Option, Result, Ok, Err}
use mathlib.Core.Logic.{∥∥₁_map, ∥∥₁_map₂}
use Rattle.grammar.specs.Grammar.{Grammar}
use Rattle.grammar.specs.States.{Automaton}
use Rattle.grammar.specs.declared.action.Action.{Action}
use Rattle.tables.specs.Held.{Held, blank, holding}
use Rattle.tables.specs.declared.tables.Tables.{Tables}
use Rattle.tables.specs.Building.{held}
use Rattle.tables.proofs.HeldTables.{held_exact}
use Rattle.line.specs.Answers.{Answer, given, refused}
use Rattle.line.specs.TurnRefusals.{told}
use Rattle.line.specs.declared.turn_refusal.TurnRefusal.{TurnRefusal}
use Rattle.plan.specs.Turns.{SlipModel, Turn, word, judge, book, withdraw, clear}
use Rattle.plan.specs.Law.{Promises}
use Rattle.plan.specs.Model.{Model, opened_model, plan_line}
use Rattle.plan.specs.Plans.{PlanValue, SameBook, book_made}
use Rattle.plan.specs.Slips.{handed}
use Rattle.plan.specs.Bookings.{LineBooked}
use Rattle.plan.specs.Shows.{Shows}
use Rattle.plan.specs.Steps.{entry_on, word_step, judge_step, book_step, withdraw_step, clear_step}
use Rattle.plan.specs.LawKept.{KeepsLaw, BeginsLaw, LawKept}
use Rattle.plan.proofs.Continuing.{TablesOf, Continues}
use Rattle.plan.proofs.Promised.{promises}
use Rattle.plan.proofs.ShownTurns.{opening}
use Rattle.plan.proofs.WordTurns.{word_continues}
use Rattle.plan.proofs.JudgeTurns.{judge_continues}
use Rattle.plan.proofs.BookTurns.{book_continues}
use Rattle.plan.proofs.FreshTurns.{withdraw_continues, clear_continues}

module _ {G : Grammar} {goto : ℕ → ℕ → Option ℕ} {cells : ℕ → ℕ → Option Action} where
  -- What is shown keeps the promises.
  shown_kept : {turns : List Turn} {b₀ : List ℕ} {n₀ : ℕ} {m : Model} {list : List ℕ} {free : ℕ} → Shows G goto cells turns b₀ n₀ m list free → Shows G goto cells turns b₀ n₀ m list free × Promises G goto cells b₀ n₀ turns list free
  shown_kept s = (s, promises s.law)

-- The tables of a plan, if it has some.
tables_of : (t : Tables) (G : Grammar) (n : ℕ) (A : Automaton) (cells : ℕ → ℕ → Option Action) → held t ≡ holding G n A cells → ∥ TablesOf G n A cells ∥₁
tables_of t G n A cells e = ∥∥₁_map (held_exact t G n A cells e) (λ x. record { given = x.0; productive = x.1; exact = x.2 })

module _ (m : Model) (list : List ℕ) (free : ℕ) (m' : Model) (list' : List ℕ) (free' : ℕ) (t : Turn) where
  -- One turn more, where the tables are known of.
  kept_by : (h : Held) → ((G : Grammar) (n : ℕ) (A : Automaton) (cells : ℕ → ℕ → Option Action) → h ≡ holding G n A cells → ∥ Continues G A cells m list free t m' list' free' ∥₁) → KeepsLaw h m list free (t ∷ []) m' list' free'
  kept_by blank f = tt
  kept_by (holding G n A cells) f = λ turns b₀ n₀ s. ∥∥₁_map₂ (f G n A cells refl) s (λ g x. shown_kept (g turns b₀ n₀ x))

pub opened_kept : (h : Held) (list : List ℕ) (free : ℕ) → BeginsLaw h opened_model list free
opened_kept blank list free = tt
opened_kept (holding G n A cells) list free = ∣ shown_kept (opening G A cells list free) ∣₁

clear_kept : (h : Held) (m : Model) (list : List ℕ) (free d : ℕ) (x : Answer (Unit {0})) (m' : Model) → clear_step h m d ≡ record { answer = x; next = m' } → KeepsLaw h m list free (clear d x ∷ []) m' list free
clear_kept h m list free d x m' e =
    kept_by m list free m' list free (clear d x) h (λ G n A cells i. ∣ clear_continues G n A cells m list free d x m' (subst (λ k. clear_step k m d ≡ record { answer = x; next = m' }) i e) ∣₁)

withdraw_kept : (h : Held) (m : Model) (list : List ℕ) (free : ℕ) (s : SlipModel) (x : Answer (Unit {0})) (m' : Model) → withdraw_step h m s.designer ≡ record { answer = x; next = m' } → KeepsLaw h m list free (withdraw s x ∷ []) m' list free
withdraw_kept h m list free s x m' e =
    kept_by m list free m' list free (withdraw s x) h (λ G n A cells i. ∣ withdraw_continues G n A cells m list free s x m' (subst (λ k. withdraw_step k m s.designer ≡ record { answer = x; next = m' }) i e) ∣₁)

word_kept : (t : Tables) (m : Model) (list : List ℕ) (free d w : ℕ) (x : Answer ℕ) (m' : Model) → word_step (held t) m d w ≡ record { answer = x; next = m' } → KeepsLaw (held t) m list free (word d w x ∷ []) m' list free
word_kept t m list free d w x m' e =
    kept_by m list free m' list free (word d w x) (held t) (λ G n A cells i.
    ∥∥₁_map (tables_of t G n A cells i) (λ T. word_continues G n A cells T m list free d w x m' (subst (λ k. word_step k m d w ≡ record { answer = x; next = m' }) i e)))

judge_kept : (t : Tables) (m : Model) (list : List ℕ) (free d : ℕ) (x : Answer SlipModel) (m' : Model) → judge_step (held t) m d ≡ record { answer = x; next = m' } → KeepsLaw (held t) m list free (judge d x ∷ []) m' list free
judge_kept t m list free d x m' e =
    kept_by m list free m' list free (judge d x) (held t) (λ G n A cells i.
    ∥∥₁_map (tables_of t G n A cells i) (λ T. judge_continues G n A cells T m list free d x m' (subst (λ k. judge_step k m d ≡ record { answer = x; next = m' }) i e)))

pub book_kept : (t : Tables) (m : Model) (list : List ℕ) (free : ℕ) (s : SlipModel) (x : Answer ℕ) (m' : Model) (numbers list' : List ℕ) (free' : ℕ) → book_step (held t) m free s.designer ≡ record { answer = x; next = m'; written = numbers } → list' ≡ list ++ numbers → free ≡ free' + length numbers → KeepsLaw (held t) m list free (book s x ∷ []) m' list' free'
book_kept t m list free s x m' numbers list' free' e f g =
    kept_by m list free m' list' free' (book s x) (held t) (λ G n A cells i.
    ∥∥₁_map (tables_of t G n A cells i) (λ T. book_continues G n A cells T m list free s x m' numbers list' free' (subst (λ k. book_step k m free s.designer ≡ record { answer = x; next = m'; written = numbers }) i e) f g))

-- No turn keeps the law, and turns behind turns do.
pub none_kept : (h : Held) (m : Model) (list : List ℕ) (free : ℕ) → KeepsLaw h m list free [] m list free
none_kept blank m list free = tt
none_kept (holding G n A cells) m list free = λ turns b₀ n₀ s. ∥∥₁_map s (λ x. shown_kept (subst (λ l. Shows G A.goto cells l b₀ n₀ m list free) (sym (append-nil turns)) x))

pub then_kept : (h : Held) (m m' m'' : Model) (list list' list'' : List ℕ) (free free' free'' : ℕ) (ts us : List Turn) → KeepsLaw h m list free ts m' list' free' → KeepsLaw h m' list' free' us m'' list'' free'' → KeepsLaw h m list free (ts ++ us) m'' list'' free''
then_kept blank m m' m'' list list' list'' free free' free'' ts us f g = tt
then_kept (holding G n A cells) m m' m'' list list' list'' free free' free'' ts us f g = λ turns b₀ n₀ s.
    subst (λ l. ∥ Shows G A.goto cells l b₀ n₀ m'' list'' free'' × Promises G A.goto cells b₀ n₀ l list'' free'' ∥₁) (append_assoc turns ts us)
    (g (turns ++ ts) b₀ n₀ (∥∥₁_map (f turns b₀ n₀ s) (λ x. x.0)))

-- A plan of these tables, this book and these lines.
abbrev pub plan_of : {B : Type 0} → Tables → B → Model → PlanValue B
plan_of t b m = record { tables = t; book = b; model = m }

-- The same, between plans with the same tables and book.
module _ {B : Type 0} (list : B → List ℕ) (free : B → ℕ) (p q : PlanValue B) (same : SameBook p q) where
  same_book : (ts : List Turn) → KeepsLaw (held p.tables) p.model (list p.book) (free p.book) ts q.model (list p.book) (free p.book) → LawKept list free p ts q
  same_book ts k = subst (λ b. KeepsLaw (held p.tables) p.model (list p.book) (free p.book) ts q.model (list b) (free b)) (sym same.1) k

  pub word_law : (d w : ℕ) (x : Answer ℕ) → word_step (held p.tables) p.model d w ≡ record { answer = x; next = q.model } → LawKept list free p (word d w x ∷ []) q
  word_law d w x e = same_book _ (word_kept p.tables p.model (list p.book) (free p.book) d w x q.model e)

  pub judge_law : (d : ℕ) (x : Answer SlipModel) → judge_step (held p.tables) p.model d ≡ record { answer = x; next = q.model } → LawKept list free p (judge d x ∷ []) q
  judge_law d x e = same_book _ (judge_kept p.tables p.model (list p.book) (free p.book) d x q.model e)

  pub withdraw_law : (s : SlipModel) (x : Answer (Unit {0})) → withdraw_step (held p.tables) p.model s.designer ≡ record { answer = x; next = q.model } → LawKept list free p (withdraw s x ∷ []) q
  withdraw_law s x e = same_book _ (withdraw_kept (held p.tables) p.model (list p.book) (free p.book) s x q.model e)

  pub clear_law : (d : ℕ) (x : Answer (Unit {0})) → clear_step (held p.tables) p.model d ≡ record { answer = x; next = q.model } → LawKept list free p (clear d x ∷ []) q
  clear_law d x e = same_book _ (clear_kept (held p.tables) p.model (list p.book) (free p.book) d x q.model e)

module _ {B : Type 0} (list : B → List ℕ) (free : B → ℕ) (grows : B → List ℕ → B → Type 0) (p q : PlanValue B) (s : SlipModel) where
  -- Booking the line of a slip's designer keeps the law.
  pub book_law : (r : Result ℕ TurnRefusal) → LineBooked list free grows p s.designer r q → LawKept list free p (book_made s (handed s r)) q
  book_law (Ok n) x =
      book_kept p.tables p.model (list p.book) (free p.book) s (given n) q.model (entry_on s.designer (plan_line p.model s.designer)) (list q.book) (free q.book) x.0 x.1.0 x.1.1
  book_law (Err e) x =
      let c : ℕ = (told e).number in
      let P : Model → B → Type 0 = λ m b. KeepsLaw (held p.tables) p.model (list p.book) (free p.book) (book s (refused c) ∷ []) m (list b) (free b) in
      subst₂ P (sym x.1) (sym x.2)
      (book_kept p.tables p.model (list p.book) (free p.book) s (refused c) p.model [] (list p.book) (free p.book) x.0 (sym (append-nil (list p.book))) (sym (add-zero (free p.book))))
