-- Slots of slips, and requests answered one behind another.
use Rattle.std.proofs.Common.{◌≡◌, ℕ, ◌+◌, ◌<◌, true, false, List, [], ◌∷◌, ◌++◌, length, get_or, set, take, Some, None, sym, refl, ap, ◌∙◌, subst₂, Option}
use Rattle.std.proofs.lemmas.List.{get_or_default, set-get_or, set-set, take_more, take_more_set}
use Rattle.std.specs.Option.{is_some}
use Rattle.line.specs.Answers.{given}
use Rattle.plan.specs.Turns.{SlipModel, Turn, book}
use Rattle.plan.specs.Plans.{PlanValue}
use Rattle.plan.specs.LawKept.{LawKept}
use Rattle.plan.specs.Made.{Grown, Made}
use Rattle.plan.specs.Requests.{Slots, Has, Replied, Answered, one_more}
use Rattle.plan.specs.declared.request.Asked.{Asked}
use Rattle.plan.specs.declared.request.Reply.{Reply}

-- What a slot has, whatever a place outside is read as.
pub has : (s : Slots) (i : ℕ) (r o : Option SlipModel) → i < length s → get_or s i r ≡ o → Has s i o
has s i r o low e = (low, sym (get_or_default s i r None low) ∙ e)

pub empty : (o : Option SlipModel) → false ≡ is_some o → o ≡ None
empty (Some x) e = cc
empty None e = refl

pub full : (o : Option SlipModel) → true ≡ is_some o → (x : SlipModel) × (o ≡ Some x)
full (Some x) e = (x, refl)
full None e = cc

-- A slip taken out and put back.
pub put_back : (s : Slots) (i : ℕ) (x : SlipModel) (o o' : Option SlipModel) → Has s i (Some x) → o ≡ None → o' ≡ Some x → set (set s i o) i o' ≡ s
put_back s i x o o' h e f = set-set s i o o' ∙ ap (set s i) (f ∙ sym h.1) ∙ set-get_or s i None

module _ {B : Type 0} (list : B → List ℕ) (free : B → ℕ) (grows : B → List ℕ → B → Type 0) where
  -- A booking done.
  pub made_booked : (P : List Turn → Type 0) (a b : PlanValue B) (x : SlipModel) (n : ℕ) → b.tables ≡ a.tables → Grown grows a.book b.book → LawKept list free a (book x (given n) ∷ []) b → P (book x (given n) ∷ []) → Made list free grows P a b
  made_booked P a b x n e g k p = record { turns = book x (given n) ∷ []; are = p; law = k; grown = g; tables = e }

-- One request more.
module _ (xs ls : List Asked) (i : ℕ) (d : Asked) (low : i < length xs) (low' : i < length ls) (next : get_or ls i d ≡ get_or xs i d) where
  pub answered_more : {s s' s'' : Slots} {ts us : List Turn} (r : Reply) → Answered (take i xs) (take i ls) s s' ts → Replied (get_or ls i d).request r s' s'' us → Answered (take (i + 1) xs) (take (i + 1) (set ls i (record { request = (get_or ls i d).request; reply = Some r }))) s s'' (ts ++ us)
  answered_more {s} {s'} {s''} {ts} {us} r p q =
      let x = get_or ls i d in
      subst₂ (λ l m. Answered l m s s'' (ts ++ us)) (ap (λ y. take i xs ++ y ∷ []) next ∙ sym (take_more xs i d low)) (sym (take_more_set ls i (record { request = x.request; reply = Some r }) low'))
      (one_more x r p q)
