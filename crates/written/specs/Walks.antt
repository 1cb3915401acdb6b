-- What walks over the tokens of a written sheet find.
use Rattle.std.specs.Prelude.{ℕ, Bool, true, false, cond, not, List, [], ◌∷◌, Some, None, Option}
use Rattle.std.specs.Borrow.{Bor}
use Rattle.written.specs.Tokens.{Token, name, word, colon, bar, semicolon, Placed}
use Rattle.written.specs.Statements.{member, words_in}
use Rattle.written.specs.TokenWalks.{GivesSpelling}
use Rattle.written.specs.declared.heads.Heads.{Heads}
use Rattle.written.specs.declared.words.Words.{Words}

-- The heads among tokens, in text order: the names where a statement may begin, as it may first if b.
abbrev pub heads_from : Bool → List Token → List (List ℕ)
heads_from b [] = []
heads_from b (name n ∷ ts) = cond b (n ∷ heads_from false ts) (heads_from false ts)
heads_from b (word w ∷ ts) = heads_from b ts
heads_from b (colon ∷ ts) = heads_from b ts
heads_from b (bar ∷ ts) = heads_from b ts
heads_from b (semicolon ∷ ts) = heads_from true ts

abbrev pub heads_in : List Token → List (List ℕ)
heads_in ts = heads_from true ts

abbrev pub GivesHead : Heads → Option (Bor (List ℕ)) → Heads → Type 0
GivesHead = GivesSpelling (λ s. s.tokens) (λ s ts. heads_from s.between ts)

abbrev pub GivesWord : Words → Option (Bor (List ℕ)) → Words → Type 0
GivesWord = GivesSpelling (λ s. s.tokens) (λ s ts. words_in ts)

-- A name that is not among the heads.
abbrev pub headless : List (List ℕ) → Token → Bool
headless heads (name n) = not (member n heads)
headless heads (word w) = false
headless heads colon = false
headless heads bar = false
headless heads semicolon = false

-- The place of the first name that is not among the heads.
abbrev pub first_headless : List (List ℕ) → List Placed → Option ℕ
first_headless heads [] = None
first_headless heads (t ∷ ts) = cond (headless heads t.token) (Some t.place) (first_headless heads ts)
