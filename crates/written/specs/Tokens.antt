-- The tokens of a written sheet, and how they lie in its text. A text is the list of its bytes.
use Rattle.std.specs.Prelude.{◌≡◌, ℕ, suc, ◌+◌, ◌≤◌, Bool, true, false, not, ◌&&◌, ◌||◌, List, [], ◌∷◌, ◌++◌, map, length, ◌==◌, nat_le}

-- A space or a newline.
abbrev pub blank : ℕ → Bool
blank b = b == 32 || b == 10

abbrev pub letter : ℕ → Bool
letter b = (nat_le 97 b && nat_le b 122) || (nat_le 65 b && nat_le b 90)

-- A byte that may stand between quotes: 33 to 126, the quote excepted.
abbrev pub quotable : ℕ → Bool
quotable b = (nat_le 33 b && nat_le b 126) && not (b == 34)

pub data Token : Type 0 where
  name : List ℕ → Token
  word : List ℕ → Token
  colon : Token
  bar : Token
  semicolon : Token

-- The bytes of a token.
abbrev pub spelling : Token → List ℕ
spelling (name bs) = bs
spelling (word bs) = 34 ∷ (bs ++ 34 ∷ [])
spelling colon = 58 ∷ []
spelling bar = 124 ∷ []
spelling semicolon = 59 ∷ []

abbrev pub Each : (ℕ → Bool) → List ℕ → Type 0
Each p [] = Unit {0}
Each p (b ∷ bs) = (p b ≡ true) × Each p bs

-- 1 to 24 bytes that pass the test.
pub record Bytes (p : ℕ → Bool) (bs : List ℕ) : Type 0 where
  pub each : Each p bs
  pub some_byte : 1 ≤ length bs
  pub few : length bs ≤ 24

-- A name is 1 to 24 letters, a word 1 to 24 bytes that may stand between quotes.
abbrev pub Proper : Token → Type 0
Proper (name bs) = Bytes letter bs
Proper (word bs) = Bytes quotable bs
Proper colon = Unit {0}
Proper bar = Unit {0}
Proper semicolon = Unit {0}

abbrev pub NoLetter : List ℕ → Type 0
NoLetter [] = Unit {0}
NoLetter (b ∷ bs) = letter b ≡ false

-- A name ends where no letter follows; the other tokens end by themselves.
abbrev pub Ends : Token → List ℕ → Type 0
Ends (name bs) rest = NoLetter rest
Ends (word bs) rest = Unit {0}
Ends colon rest = Unit {0}
Ends bar rest = Unit {0}
Ends semicolon rest = Unit {0}

-- A token with the place of its first byte, from 0.
pub record Placed : Type 0 where
  pub place : ℕ
  pub token : Token

abbrev pub tokens : List Placed → List Token
tokens ts = map (λ t. t.token) ts

-- The tokens lie in the text, which begins at the place `at`, with spaces and newlines before, between and behind them.
pub data Laid : ℕ → List Placed → List ℕ → Type 0 where
  nothing : {at : ℕ} → Laid at [] []
  divider : {at b : ℕ} {ts : List Placed} {bs : List ℕ} → blank b ≡ true → Laid (suc at) ts bs → Laid at ts (b ∷ bs)
  token : {at : ℕ} {ts : List Placed} {rest : List ℕ} (t : Token) → Proper t → Ends t rest → Laid (at + length (spelling t)) ts rest → Laid at (record { place = at; token = t } ∷ ts) (spelling t ++ rest)
