-- Requests with their replies, as turns of a plan.
use Rattle.std.specs.Prelude.{◌≡◌, ℕ, ◌<◌, ◌≤◌, List, [], ◌∷◌, ◌++◌, length, Option, Some, None}
use Rattle.std.specs.Prelude.{slice_index_or, slice_set}
use Rattle.line.specs.Answers.{given, refused}
use Rattle.line.specs.TurnRefusals.{told}
use Rattle.line.specs.declared.turn_refusal.TurnRefusal.{TurnRefusal}
use Rattle.plan.specs.declared.request.Asked.{Asked}
use Rattle.plan.specs.declared.request.Request.{Request}
use Rattle.plan.specs.declared.request.Request.TheVariants.{Word, Judge, Book, Withdraw, Clear}
use Rattle.plan.specs.declared.request.Reply.{Reply}
use Rattle.plan.specs.declared.request.Reply.TheVariants.{Taken, Judged, Booked, Withdrawn, Cleared}
use Rattle.plan.specs.declared.request.Reply.TheVariants.{Refused, NoSlot, FullSlot, EmptySlot}
use Rattle.plan.specs.Turns.{SlipModel, Turn, word, judge, book, withdraw, clear}

-- What the slots hold.
abbrev pub Slots : Type 0
Slots = List (Option SlipModel)

-- The slot with this number has this slip, or none.
abbrev pub Has : Slots → ℕ → Option SlipModel → Type 0
Has s i o = (i < length s) × (slice_index_or s i None ≡ o)

-- A request with its reply, the slots before and after it, and the turn that it made.
-- A slip that was booked or withdrawn has left its slot; one that was not lies there as before.
-- Where the slot is not as it is wanted, no turn is made.
pub data Replied : Request → Reply → Slots → Slots → List Turn → Type 0 where
  taken : {s : Slots} (d w n : ℕ) → Replied (Word d w) (Taken n) s s (word d w (given n) ∷ [])
  not_taken : {s : Slots} (d w : ℕ) (e : TurnRefusal)
      → Replied (Word d w) (Refused e) s s (word d w (refused (told e).number) ∷ [])
  judged : {s : Slots} (d i : ℕ) (x : SlipModel) → Has s i None
      → Replied (Judge d i) Judged s (slice_set s i (Some x)) (judge d (given x) ∷ [])
  not_judged : {s : Slots} (d i : ℕ) (e : TurnRefusal) → Has s i None
      → Replied (Judge d i) (Refused e) s s (judge d (refused (told e).number) ∷ [])
  judged_nowhere : {s : Slots} (d i : ℕ) → length s ≤ i → Replied (Judge d i) NoSlot s s []
  slot_full : {s : Slots} (d i : ℕ) (x : SlipModel)
      → Has s i (Some x)
      → Replied (Judge d i) FullSlot s s []
  booked : {s : Slots} (i n : ℕ) (x : SlipModel) → Has s i (Some x)
      → Replied (Book i) (Booked n) s (slice_set s i None) (book x (given n) ∷ [])
  not_booked : {s : Slots} (i : ℕ) (x : SlipModel) (e : TurnRefusal) → Has s i (Some x)
      → Replied (Book i) (Refused e) s s (book x (refused (told e).number) ∷ [])
  booked_nowhere : {s : Slots} (i : ℕ) → length s ≤ i → Replied (Book i) NoSlot s s []
  nothing_booked : {s : Slots} (i : ℕ) → Has s i None → Replied (Book i) EmptySlot s s []
  withdrawn : {s : Slots} (i : ℕ) (x : SlipModel) → Has s i (Some x)
      → Replied (Withdraw i) Withdrawn s (slice_set s i None) (withdraw x (given tt) ∷ [])
  not_withdrawn : {s : Slots} (i : ℕ) (x : SlipModel) (e : TurnRefusal) → Has s i (Some x)
      → Replied (Withdraw i) (Refused e) s s (withdraw x (refused (told e).number) ∷ [])
  withdrawn_nowhere : {s : Slots} (i : ℕ) → length s ≤ i → Replied (Withdraw i) NoSlot s s []
  nothing_withdrawn : {s : Slots} (i : ℕ) → Has s i None → Replied (Withdraw i) EmptySlot s s []
  cleared : {s : Slots} (d : ℕ) → Replied (Clear d) Cleared s s (clear d (given tt) ∷ [])
  not_cleared : {s : Slots} (d : ℕ) (e : TurnRefusal)
      → Replied (Clear d) (Refused e) s s (clear d (refused (told e).number) ∷ [])

-- The requests, in order, each with its reply behind it; the slots before and after them all, and
-- the turns that they made.
pub data Answered : List Asked → List Asked → Slots → Slots → List Turn → Type 0 where
  none : {s : Slots} → Answered [] [] s s []
  one_more : {xs ys : List Asked} {s s' s'' : Slots} {ts us : List Turn} (x : Asked) (r : Reply)
      → Answered xs ys s s' ts
      → Replied x.request r s' s'' us
      → Answered (xs ++ x ∷ []) (ys ++ record { request = x.request; reply = Some r } ∷ []) s s''
      (ts ++ us)
