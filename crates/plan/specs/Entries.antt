-- What the book has of the booked lines.
use Rattle.std.specs.Prelude.{◌≡◌, ℕ, List, [], ◌∷◌, ◌++◌, reverse, length}
use Rattle.grammar.specs.Grammar.{Grammar}
use Rattle.grammar.specs.Derivation.{Derives}
use Rattle.plan.specs.Account.{BookedLine}

-- The numbers of an entry: the designer, the number of words, the number of rules, the words and
-- the rules.
abbrev pub entry : ℕ → List ℕ → List ℕ → List ℕ
entry designer words rules = designer ∷ length words ∷ length rules ∷ (words ++ rules)

-- The numbers are the entry of the line: its rules are the rightmost derivation of its words,
-- reversed, and the words have no other rightmost derivation.
pub record EntryOf (G : Grammar) (b : BookedLine) (numbers : List ℕ) : Type 0 where
  pub derivation : List ℕ
  pub derives : Derives G derivation b.words
  pub only : (ds : List ℕ) → Derives G ds b.words → ds ≡ derivation
  pub is : numbers ≡ entry b.designer b.words (reverse derivation)

-- The list is the entries of the booked lines, one after another in booking order.
pub data Entries (G : Grammar) : List BookedLine → List ℕ → Type 0 where
  no_entry : Entries G [] []
  one_entry : {b : BookedLine} {bs : List BookedLine} {numbers list : List ℕ}
      → EntryOf G b numbers
      → Entries G bs list
      → Entries G (b ∷ bs) (numbers ++ list)
