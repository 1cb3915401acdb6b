-- The law over a list of turns from the opening on.
use Rattle.std.specs.Prelude.{◌≡◌, ℕ, ◌+◌, ◌<◌, false, ◌↔◌, List, [], ◌∷◌, ◌++◌, length, Option}
use Rattle.grammar.specs.Grammar.{Grammar}
use Rattle.grammar.specs.Derivation.{ShortSentence, Begins}
use Rattle.grammar.specs.declared.action.Action.{Action}
use Rattle.line.specs.Answers.{Answer, IsGiven}
use Rattle.plan.specs.Turns.{SlipModel, Turn, word, judge}
use Rattle.plan.specs.Account.{BookedLine, account, line_of}
use Rattle.plan.specs.Entries.{Entries}
use Rattle.plan.specs.RightAnswers.{RightTurn}
use Rattle.plan.specs.TableRuns.{FewReductions}

-- Behind what it held at the opening the book holds the entries of the booked lines, in booking
-- order, and so many fewer numbers are free.
pub record Written (G : Grammar) (b₀ : List ℕ) (n₀ : ℕ) (booked : List BookedLine)
    (book_now : List ℕ) (free_now : ℕ) : Type 0 where
  pub list : List ℕ
  pub entries : Entries G booked list
  pub book : book_now ≡ b₀ ++ list
  pub free : free_now + length list ≡ n₀

-- Every turn was answered rightly in the account of the turns before it, and the book is written as
-- the account says; b₀ is the book's list and n₀ its free count at the opening.
pub record Law (G : Grammar) (goto : ℕ → ℕ → Option ℕ) (cells : ℕ → ℕ → Option Action) (b₀ : List ℕ)
    (n₀ : ℕ) (turns : List Turn) (book_now : List ℕ) (free_now : ℕ) : Type 0 where
  pub right : (before after : List Turn) (t : Turn)
      → turns ≡ before ++ t ∷ after
      → RightTurn G goto cells n₀ (account before) t
  pub written : Written G b₀ n₀ (account turns).booked book_now free_now

-- The three promises by themselves, which follow from the law: an open line is judged good exactly when its words are a
-- sentence of at most 768 derivation steps; a word that comes to an open line below its limits is
-- taken exactly when some sentence begins so; and the book holds the entries of the booked lines.
pub record Promises (G : Grammar) (goto : ℕ → ℕ → Option ℕ) (cells : ℕ → ℕ → Option Action)
    (b₀ : List ℕ) (n₀ : ℕ) (turns : List Turn) (book_now : List ℕ) (free_now : ℕ) : Type 0 where
  pub judged : (before after : List Turn) (d : ℕ) (x : Answer SlipModel)
      → turns ≡ before ++ judge d x ∷ after
      → d < 8
      → (line_of (account before) d).judged ≡ false
      → IsGiven x ↔ ShortSentence G (line_of (account before) d).words
  pub taken : (before after : List Turn) (d w : ℕ) (x : Answer ℕ)
      → turns ≡ before ++ word d w x ∷ after
      → d < 8
      → (line_of (account before) d).judged ≡ false
      → length (line_of (account before) d).words < 256
      → FewReductions G goto cells ((line_of (account before) d).words ++ w ∷ [])
      → IsGiven x ↔ Begins G ((line_of (account before) d).words ++ w ∷ [])
  pub written : Written G b₀ n₀ (account turns).booked book_now free_now
