-- The turns by which a whole line is brought, judged and booked, to the first refusal.
use Rattle.std.specs.Prelude.{◌≡◌, ℕ, List, [], ◌∷◌, ◌++◌}
use Rattle.line.specs.Answers.{Answer, given, refused}
use Rattle.plan.specs.Turns.{SlipModel, Turn, word, judge, book, withdraw, clear}

-- A designer's words brought one by one, and all taken.
pub data Taken (d : ℕ) : List ℕ → List Turn → Type 0 where
  no_word : Taken d [] []
  one_more : {ws : List ℕ} {ts : List Turn} (w n : ℕ)
      → Taken d ws ts
      → Taken d (ws ++ w ∷ []) (ts ++ word d w (given n) ∷ [])

-- The words brought to the first refusal, and the line judged if there is none.
pub data Judging (d : ℕ) (ws : List ℕ) : Answer SlipModel → List Turn → Type 0 where
  all_taken : {ts : List Turn} (x : Answer SlipModel)
      → Taken d ws ts
      → Judging d ws x (ts ++ judge d x ∷ [])
  not_taken : {ts : List Turn} (before after : List ℕ) (w c : ℕ)
      → ws ≡ before ++ w ∷ after
      → Taken d before ts
      → Judging d ws (refused c) (ts ++ word d w (refused c) ∷ [])

-- A slip withdrawn, and not refused.
abbrev pub Withdrawing : SlipModel → List Turn → Type 0
Withdrawing s turns = turns ≡ withdraw s (given tt) ∷ []

-- A slip booked, or withdrawn where booking is refused.
pub data SettlingSlip (s : SlipModel) : Answer ℕ → List Turn → Type 0 where
  booked : (n : ℕ) → SettlingSlip s (given n) (book s (given n) ∷ [])
  withdrawn : (c : ℕ) → SettlingSlip s (refused c) (book s (refused c) ∷ withdraw s (given tt) ∷ [])

-- What comes behind the judging: the slip is settled, and a line without one is cleared, if it is
-- open.
abbrev pub Settling : ℕ → Answer SlipModel → Answer ℕ → List Turn → Type 0
Settling d (given s) x turns = SettlingSlip s x turns
Settling d (refused c) x turns =
    (y : Answer (Unit {0}))
    × (x ≡ refused c)
    × (turns ≡ clear d y ∷ [])

-- The turns that a whole line takes; the answer is the count of booked lines, or the first refusal.
pub record WholeLine (d : ℕ) (ws : List ℕ) (x : Answer ℕ) (turns : List Turn) : Type 0 where
  pub slip : Answer SlipModel
  pub first : List Turn
  pub second : List Turn
  pub judging : Judging d ws slip first
  pub settling : Settling d slip x second
  pub is : turns ≡ first ++ second
