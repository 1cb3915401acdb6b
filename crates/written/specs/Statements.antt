-- The statements of a written sheet, and the grammar that they mean.
use Rattle.std.specs.Prelude.{◌≡◌, ℕ, suc, ◌+◌, Bool, false, cond, ◌||◌, List, [], ◌∷◌, ◌++◌, map, length}
use Rattle.std.specs.Str.{bytes_eq}
use Rattle.grammar.specs.Grammar.{Rule, Grammar}
use Rattle.written.specs.Tokens.{Token, name, word, colon, bar, semicolon, Placed, tokens, Laid}

-- A code on a right side, as it is written.
pub data Symbol : Type 0 where
  named : List ℕ → Symbol
  quoted : List ℕ → Symbol

-- A name, and the right sides of its rules: one, and those behind a bar.
pub record Statement : Type 0 where
  pub head : List ℕ
  pub first : List Symbol
  pub more : List (List Symbol)

abbrev pub symbol_token : Symbol → Token
symbol_token (named bs) = name bs
symbol_token (quoted bs) = word bs

abbrev pub more_tokens : List (List Symbol) → List Token
more_tokens [] = semicolon ∷ []
more_tokens (a ∷ more) = bar ∷ (map symbol_token a ++ more_tokens more)

-- A statement is a name, a colon, right sides divided by bars, and a semicolon.
abbrev pub statement_tokens : Statement → List Token
statement_tokens s = name s.head ∷ colon ∷ (map symbol_token s.first ++ more_tokens s.more)

abbrev pub sheet_tokens : List Statement → List Token
sheet_tokens [] = []
sheet_tokens (s ∷ ss) = statement_tokens s ++ sheet_tokens ss

-- The text is written of these statements; ts are its tokens with their places.
pub record Written (text : List ℕ) (ts : List Placed) (ss : List Statement) : Type 0 where
  pub laid : Laid 0 ts text
  pub tokens_are : tokens ts ≡ sheet_tokens ss

-- Two spellings are alike when their bytes are equal; a spelling is in a list when one alike is.
unfoldable pub member : List ℕ → List (List ℕ) → Bool
member x [] = false
member x (y ∷ ys) = bytes_eq x y || member x ys

-- How many stand before the spelling in a list.
unfoldable pub index_of : List ℕ → List (List ℕ) → ℕ
index_of x [] = 0
index_of x (y ∷ ys) = cond (bytes_eq x y) 0 (suc (index_of x ys))

-- A list of spellings with one more, unless it is there already.
abbrev pub noted : List (List ℕ) → List ℕ → List (List ℕ)
noted seen x = cond (member x seen) seen (seen ++ x ∷ [])

-- The spellings by first appearance, behind those seen already.
unfoldable pub distinct_from : List (List ℕ) → List (List ℕ) → List (List ℕ)
distinct_from seen [] = seen
distinct_from seen (x ∷ xs) = distinct_from (noted seen x) xs

abbrev pub distinct : List (List ℕ) → List (List ℕ)
distinct xs = distinct_from [] xs

-- The words among tokens, in text order.
abbrev pub words_in : List Token → List (List ℕ)
words_in [] = []
words_in (word bs ∷ ts) = bs ∷ words_in ts
words_in (name bs ∷ ts) = words_in ts
words_in (colon ∷ ts) = words_in ts
words_in (bar ∷ ts) = words_in ts
words_in (semicolon ∷ ts) = words_in ts

-- The terminals are the words by first appearance, and the nonterminals the heads by first appearance.
abbrev pub terminals_of : List Statement → List (List ℕ)
terminals_of ss = distinct (words_in (sheet_tokens ss))

abbrev pub nonterminals_of : List Statement → List (List ℕ)
nonterminals_of ss = distinct (map (λ s. s.head) ss)

module _ (terminals nonterminals : List (List ℕ)) where
  abbrev pub name_code : List ℕ → ℕ
  name_code bs = length terminals + 1 + index_of bs nonterminals

  abbrev pub word_code : List ℕ → ℕ
  word_code bs = 1 + index_of bs terminals

  abbrev pub symbol_code : Symbol → ℕ
  symbol_code (named bs) = name_code bs
  symbol_code (quoted bs) = word_code bs

  abbrev pub rule_of : List ℕ → List Symbol → Rule
  rule_of head a = record { left = name_code head; right = map symbol_code a }

  -- A rule for each right side.
  abbrev pub rules_of : List Statement → List Rule
  rules_of [] = []
  rules_of (s ∷ ss) = map (rule_of s.head) (s.first ∷ s.more) ++ rules_of ss

-- What the statements mean.
abbrev pub grammar_of : List Statement → Grammar
grammar_of ss = record { terminals = length (terminals_of ss); nonterminals = length (nonterminals_of ss); rules = rules_of (terminals_of ss) (nonterminals_of ss) ss }
