-- Which answer to a turn is right, in the account of the turns before it.
use Rattle.std.specs.Prelude.{◌≡◌, ℕ, ◌+◌, ◌-◌, ◌^◌, ◌<◌, ◌≤◌, min, Bool, true, false, not, ◌↔◌}
use Rattle.std.specs.Prelude.{List, [], ◌∷◌, ◌++◌, length, Option}
use Rattle.grammar.specs.Grammar.{Grammar, IsTerminal}
use Rattle.grammar.specs.Derivation.{Derives, Sentence, ShortSentence, Begins}
use Rattle.grammar.specs.declared.action.Action.{Action}
use Rattle.line.specs.Answers.{Answer, given, refused, IsGiven}
use Rattle.plan.specs.Turns.{SlipModel, Turn, word, judge, book, withdraw, clear}
use Rattle.plan.specs.Account.{AccountLine, BookedLine, Account, line_of}
use Rattle.plan.specs.Entries.{EntryOf, Entries}
use Rattle.plan.specs.TableRuns.{Run, FewReductions}

-- The designer is one of 0 to 7, and the line is judged or open as wanted.
pub record Ready (judged : Bool) (designer : ℕ) (l : AccountLine) : Type 0 where
  pub designer_low : designer < 8
  pub status : l.judged ≡ judged

-- The first causes of a refusal: 9, the designer is above 7; 10, the line is judged where an open
-- one is wanted, or open where a judged one is.
pub data Unready (judged : Bool) (designer : ℕ) (l : AccountLine) : ℕ → Type 0 where
  no_designer : 7 < designer → Unready judged designer l 9
  other_status : designer < 8 → l.judged ≡ not judged → Unready judged designer l 10

module _ (G : Grammar) (goto : ℕ → ℕ → Option ℕ) (cells : ℕ → ℕ → Option Action) where
  -- The machine, run from state 0 over the words, makes n reductions on its further way over w; and
  -- so does every such run.
  pub record Reductions (words : List ℕ) (w n : ℕ) : Type 0 where
    pub rules : List ℕ
    pub states : List ℕ
    pub run : Run G goto cells (0 ∷ []) words rules states []
    pub rules_on : List ℕ
    pub states_on : List ℕ
    pub run_on : Run G goto cells states (w ∷ []) rules_on states_on []
    pub count : length rules_on ≡ n
    pub every : (ps qs σ τ : List ℕ)
        → Run G goto cells (0 ∷ []) words ps σ []
        → Run G goto cells (0 ∷ []) (words ++ w ∷ []) qs τ []
        → length qs ≡ length ps + n

  -- Why a word is refused: 11, the line has 256 words; 12, the word is no terminal; 13, the
  -- machine, run over the line's words and it, makes a 769th reduction; 14, it does not, and no
  -- sentence begins so.
  pub data WordCause (designer w : ℕ) (l : AccountLine) : ℕ → Type 0 where
    unready : {c : ℕ} → Unready false designer l c → WordCause designer w l c
    line_full : Ready false designer l → 256 ≤ length l.words → WordCause designer w l 11
    no_terminal : Ready false designer l
        → length l.words < 256
        → (IsTerminal G w → ⊥)
        → WordCause designer w l 12
    too_many : Ready false designer l
        → length l.words < 256
        → IsTerminal G w
        → (FewReductions G goto cells (l.words ++ w ∷ []) → ⊥)
        → WordCause designer w l 13
    no_sentence : Ready false designer l
        → length l.words < 256
        → IsTerminal G w
        → FewReductions G goto cells (l.words ++ w ∷ [])
        → (Begins G (l.words ++ w ∷ []) → ⊥)
        → WordCause designer w l 14

  -- A word is taken exactly when its line is open and below its limits, and some sentence begins
  -- with the line's words and it; the answer is the number of reductions of that turn.
  pub record RightWord (designer w : ℕ) (l : AccountLine) (x : Answer ℕ) : Type 0 where
    pub taken : IsGiven x
        ↔
        (Ready false designer l
        × (length l.words < 256)
        × FewReductions G goto cells (l.words ++ w ∷ [])
        × Begins G (l.words ++ w ∷ []))
    pub count : (n : ℕ) → x ≡ given n → Reductions l.words w n
    pub cause : (c : ℕ) → x ≡ refused c → WordCause designer w l c

  -- Why judging is refused: 13, the machine, run over the line's words and the end mark, makes a
  -- 769th reduction; 14, it does not, and the words are no sentence.
  pub data JudgeCause (designer : ℕ) (l : AccountLine) : ℕ → Type 0 where
    unready : {c : ℕ} → Unready false designer l c → JudgeCause designer l c
    too_many : Ready false designer l
        → (FewReductions G goto cells (l.words ++ 0 ∷ []) → ⊥)
        → JudgeCause designer l 13
    no_sentence : Ready false designer l
        → FewReductions G goto cells (l.words ++ 0 ∷ [])
        → (Sentence G l.words → ⊥)
        → JudgeCause designer l 14

  -- A line is judged good exactly when it is open and its words are a sentence of at most 768
  -- derivation steps; its slip has the designer and the numbers of words and steps.
  pub record RightJudge (designer : ℕ) (l : AccountLine) (x : Answer SlipModel) : Type 0 where
    pub good : IsGiven x ↔ (Ready false designer l × ShortSentence G l.words)
    pub slip : (s : SlipModel) (ds : List ℕ)
        → x ≡ given s
        → Derives G ds l.words
        → s ≡ record { designer = designer; words = length l.words; steps = length ds }
    pub cause : (c : ℕ) → x ≡ refused c → JudgeCause designer l c

module _ (G : Grammar) (free : ℕ) (list : List ℕ) (b : BookedLine) where
  -- The entry of the line fits behind the list, where so many numbers were free before it; and that
  -- it does not.
  abbrev pub Fits : Type 0
  Fits = (numbers : List ℕ) × EntryOf G b numbers × (length list + length numbers ≤ free)

  abbrev pub Overflows : Type 0
  Overflows = (numbers : List ℕ) × EntryOf G b numbers × (free < length list + length numbers)

-- The line of a designer, as it would be booked.
abbrev pub bookable : Account → ℕ → BookedLine
bookable a d = record { designer = d; words = (line_of a d).words }

module _ (G : Grammar) (n₀ : ℕ) (a : Account) where
  -- Why booking is refused: 15, the entry does not fit behind those of the lines booked so far.
  pub data BookCause (d : ℕ) (list : List ℕ) : ℕ → Type 0 where
    unready : {c : ℕ} → Unready true d (line_of a d) c → BookCause d list c
    no_room : Ready true d (line_of a d) → Overflows G n₀ list (bookable a d) → BookCause d list 15

  -- A line is booked exactly when it is judged and its entry fits behind those of the lines booked
  -- so far, where n₀ numbers were free at the opening; the answer is how many lines are booked
  -- then, up to the largest number of 64 bits.
  pub record RightBook (d : ℕ) (x : Answer ℕ) : Type 0 where
    pub list : List ℕ
    pub entries : Entries G a.booked list
    pub done : IsGiven x ↔ (Ready true d (line_of a d) × Fits G n₀ list (bookable a d))
    pub count : (n : ℕ) → x ≡ given n → n ≡ min (length a.booked + 1) (2 ^ 64 - 1)
    pub cause : (c : ℕ) → x ≡ refused c → BookCause d list c

-- A call that makes a line fresh is done exactly when the line is judged or open as wanted.
pub record RightFresh (judged : Bool) (designer : ℕ) (l : AccountLine)
    (x : Answer (Unit {0})) : Type 0 where
  pub done : IsGiven x ↔ Ready judged designer l
  pub cause : (c : ℕ) → x ≡ refused c → Unready judged designer l c

-- The answer of a turn is right, where n₀ numbers were free at the opening. Slips act on the line
-- of their designer, wherever they came from.
abbrev pub RightTurn : Grammar
    → (ℕ → ℕ → Option ℕ)
    → (ℕ → ℕ → Option Action)
    → ℕ
    → Account
    → Turn
    → Type 0
RightTurn G goto cells n₀ a (word d w x) = RightWord G goto cells d w (line_of a d) x
RightTurn G goto cells n₀ a (judge d x) = RightJudge G goto cells d (line_of a d) x
RightTurn G goto cells n₀ a (book s x) = RightBook G n₀ a s.designer x
RightTurn G goto cells n₀ a (withdraw s x) = RightFresh true s.designer (line_of a s.designer) x
RightTurn G goto cells n₀ a (clear d x) = RightFresh false d (line_of a d) x
