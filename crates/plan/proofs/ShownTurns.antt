-- What plan and book show with one turn more.
use Rattle.std.proofs.Common.{◌≡◌, ℕ, zero, suc, ◌-◌, ◌^◌, min, List, [], ◌∷◌, ◌++◌, map, length, get_or, set, replicate, sym, refl, ap, ◌∙◌, subst, subst₂, append-nil, add-zero, length-set, Option}
use lib.ListN.{get_or-map}
use Rattle.std.proofs.lemmas.List.{map-set}
use Rattle.grammar.specs.Grammar.{Grammar}
use Rattle.grammar.specs.States.{Automaton}
use Rattle.grammar.specs.declared.action.Action.{Action}
use Rattle.plan.specs.Turns.{Turn}
use Rattle.plan.specs.Account.{BookedLine, Account, after_turn, account, line_of, empty_line, with_line}
use Rattle.plan.specs.Entries.{no_entry}
use Rattle.plan.specs.RightAnswers.{RightTurn}
use Rattle.plan.specs.Law.{Written}
use Rattle.line.specs.PlanLines.{PlanLine, fresh_plan_line}
use Rattle.plan.specs.Model.{Model, opened_model, plan_line, with_plan_line}
use Rattle.plan.specs.Shows.{account_line, Stands, Shows}
use Rattle.plan.proofs.TableRuns.{fresh_behind}
use Rattle.plan.proofs.TurnLists.{account_more, no_turns_lem, Found, last, earlier, found}

-- What holds at every place of a list and of another value holds at every place when that is set.
set_holds : {X : Type 0} (P : X → Type 0) (z x : X) → P x → (l : List X) → ((k : ℕ) → P (get_or l k z)) → (d k : ℕ) → P (get_or (set l d x) k z)
set_holds P z x p [] f d k = f k
set_holds P z x p (y ∷ l) f zero zero = p
set_holds P z x p (y ∷ l) f zero (suc k) = f (suc k)
set_holds P z x p (y ∷ l) f (suc d) zero = f zero
set_holds P z x p (y ∷ l) f (suc d) (suc k) = set_holds P z x p l (λ i. f (suc i)) d k

-- One value all over.
same_holds : {X : Type 0} (P : X → Type 0) (z : X) → P z → (n k : ℕ) → P (get_or (replicate n z) k z)
same_holds P z p zero k = p
same_holds P z p (suc n) zero = p
same_holds P z p (suc n) (suc k) = same_holds P z p n k

-- What plan and book are by the account.
pub record Kept (G : Grammar) (a : Account) (b₀ : List ℕ) (n₀ : ℕ) (m : Model) (list : List ℕ) (free : ℕ) : Type 0 where
  pub lines : a.lines ≡ map account_line m.lines
  pub count : m.count ≡ min (length a.booked) (2 ^ 64 - 1)
  pub written : Written G b₀ n₀ a.booked list free

module _ (G : Grammar) (A : Automaton) (cells : ℕ → ℕ → Option Action) where
  abbrev StandsLine : PlanLine → Type 0
  StandsLine l = Stands G A.goto cells l.judged l.line

  pub opening : (b₀ : List ℕ) (n₀ : ℕ) → Shows G A.goto cells [] b₀ n₀ opened_model b₀ n₀
  opening b₀ n₀ =
      record {
        eight = refl;
        lines = refl;
        stands = same_holds StandsLine fresh_plan_line (fresh_behind G A.goto cells) 8;
        count = refl;
        law = record {
          right = λ before after t e. absurd (no_turns_lem before after t e);
          written = record { list = []; entries = no_entry; book = sym (append-nil b₀); free = add-zero n₀ };
        };
      }

  module _ {turns : List Turn} {b₀ : List ℕ} {n₀ : ℕ} {m : Model} {list : List ℕ} {free : ℕ} (s : Shows G A.goto cells turns b₀ n₀ m list free) where
    -- A designer's line in the account is that of the plan.
    pub line_shown : (d : ℕ) → line_of (account turns) d ≡ account_line (plan_line m d)
    line_shown d = ap (λ l. get_or l d empty_line) s.lines ∙ get_or-map account_line m.lines d fresh_plan_line

    right_found : (t : Turn) → RightTurn G A.goto cells n₀ (account turns) t → (before : List Turn) (u : Turn) → Found turns before t u → RightTurn G A.goto cells n₀ (account before) u
    right_found t r before u (last p q) = subst₂ (λ l x. RightTurn G A.goto cells n₀ (account l) x) (sym p) (sym q) r
    right_found t r before u (earlier after p) = s.law.right before after u p

    shown_more : (t : Turn) → RightTurn G A.goto cells n₀ (account turns) t → {m' : Model} {list' : List ℕ} {free' : ℕ} → length m'.lines ≡ 8 → ((d : ℕ) → StandsLine (plan_line m' d)) → Kept G (after_turn (account turns) t) b₀ n₀ m' list' free' → Shows G A.goto cells (turns ++ t ∷ []) b₀ n₀ m' list' free'
    shown_more t r {m'} {list'} {free'} e f k =
        let k' = subst (λ a. Kept G a b₀ n₀ m' list' free') (sym (account_more (account []) turns t)) k in
        record {
          eight = e;
          lines = k'.lines;
          stands = f;
          count = k'.count;
          law = record { right = λ before after u p. right_found t r before u (found turns t before after u p); written = k'.written };
        }

    -- A turn that changes nothing.
    pub shown_same : (t : Turn) → RightTurn G A.goto cells n₀ (account turns) t → account turns ≡ after_turn (account turns) t → Shows G A.goto cells (turns ++ t ∷ []) b₀ n₀ m list free
    shown_same t r e = shown_more t r s.eight s.stands (subst (λ a. Kept G a b₀ n₀ m list free) e (record { lines = s.lines; count = s.count; written = s.law.written }))

    lines_set : (d : ℕ) (l : PlanLine) → set (account turns).lines d (account_line l) ≡ map account_line (set m.lines d l)
    lines_set d l = ap (λ ls. set ls d (account_line l)) s.lines ∙ sym (map-set account_line m.lines d l)

    -- A turn that changes one line.
    pub shown_line : (t : Turn) → RightTurn G A.goto cells n₀ (account turns) t → (d : ℕ) (l : PlanLine) → StandsLine l → with_line (account turns) d (account_line l) ≡ after_turn (account turns) t → Shows G A.goto cells (turns ++ t ∷ []) b₀ n₀ (with_plan_line m d l) list free
    shown_line t r d l x e =
        shown_more t r (length-set m.lines d l ∙ s.eight) (set_holds StandsLine fresh_plan_line l x m.lines s.stands d)
        (subst (λ a. Kept G a b₀ n₀ (with_plan_line m d l) list free) e (record { lines = lines_set d l; count = s.count; written = s.law.written }))

    -- A turn that makes a line fresh and adds it to the booked ones.
    pub shown_booked : (t : Turn) → RightTurn G A.goto cells n₀ (account turns) t → (d c : ℕ) (b : BookedLine) {list' : List ℕ} {free' : ℕ} → record { lines = set (account turns).lines d empty_line; booked = (account turns).booked ++ b ∷ [] } ≡ after_turn (account turns) t → c ≡ min (length ((account turns).booked ++ b ∷ [])) (2 ^ 64 - 1) → Written G b₀ n₀ ((account turns).booked ++ b ∷ []) list' free' → Shows G A.goto cells (turns ++ t ∷ []) b₀ n₀ (record { lines = set m.lines d fresh_plan_line; count = c }) list' free'
    shown_booked t r d c b {list'} {free'} e h w =
        shown_more t r (length-set m.lines d fresh_plan_line ∙ s.eight) (set_holds StandsLine fresh_plan_line fresh_plan_line (fresh_behind G A.goto cells) m.lines s.stands d)
        (subst (λ a. Kept G a b₀ n₀ (record { lines = set m.lines d fresh_plan_line; count = c }) list' free') e (record { lines = lines_set d fresh_plan_line; count = h; written = w }))
