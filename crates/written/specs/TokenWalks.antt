-- What is left of a text's tokens on a walk over them.
use Rattle.std.specs.Prelude.{◌≡◌, ℕ, ◌-◌, List, [], ◌∷◌, length, drop, Some, None, Option}
use Rattle.std.specs.Borrow.{Bor}
use Rattle.written.specs.Lexing.{Borrows, placed_of}
use Rattle.written.specs.Tokens as spec
use Rattle.written.specs.Tokens.{Placed, Laid, tokens}
use Rattle.written.specs.declared.lexer.Token.{Token}
use Rattle.written.specs.declared.tokens.Tokens.{Tokens}

-- These tokens are left: they lie in the text from the place on.
abbrev pub Ahead : Tokens → List Placed → Type 0
Ahead s ts = Laid s.at ts (drop s.at s.text.now)

abbrev pub bytes_left : Tokens → ℕ
bytes_left s = length s.text.now - s.at

-- The first of the tokens that were left was given, with its part of the text,
-- and the others are left; or there was none.
abbrev pub GivesToken : Tokens → Option Token → Tokens → Type 0
GivesToken s None t = (ts : List Placed) → Ahead s ts → ts ≡ []
GivesToken s (Some x) t = Borrows s.text.now x
    × ((ts : List Placed)
    → Ahead s ts
    → (rest : List Placed) × (ts ≡ placed_of x ∷ rest) × Ahead t rest)

-- A walk that picks spellings out of the tokens that are left gave the first of them, and the others are left; or there was none.
module _ {S : Type 0} (walk : S → Tokens) (picked : S → List spec.Token → List (List ℕ)) where
  abbrev pub GivesSpelling : S → Option (Bor (List ℕ)) → S → Type 0
  GivesSpelling s None t = (ts : List Placed) → Ahead (walk s) ts → picked s (tokens ts) ≡ []
  GivesSpelling s (Some x) t = (ts : List Placed) → Ahead (walk s) ts → (rest : List Placed) × (picked s (tokens ts) ≡ x.now ∷ picked t (tokens rest)) × Ahead (walk t) rest
