-- The words and heads of a text, and their codes.
use Rattle.std.specs.Prelude.{◌≡◌, ℕ, zero, suc, ◌+◌, ◌<◌, ◌≤◌, ◌⊎◌, cond, List, ◌++◌, length, Some, None, Ok, Err, Option, Result}
use Rattle.std.specs.List.{slice_get}
use Rattle.bounded.specs.declared.full.Full.{Full}
use Rattle.written.specs.Tokens.{Token}
use Rattle.written.specs.Statements.{member, index_of, distinct, words_in, name_code}
use Rattle.written.specs.Spelled.{spelled}
use Rattle.written.specs.Walks.{heads_in}
use Rattle.written.specs.declared.names.Names.{Names}

-- These are the words and the heads among the tokens, or there are more than 63 of either.
abbrev pub NamesIn : Result Names Full → List Token → Type 0
NamesIn (Ok s) ts = (spelled s.words ≡ distinct (words_in ts)) × (spelled s.heads ≡ distinct (heads_in ts))
NamesIn (Err e) ts = (63 < length (distinct (words_in ts))) ⊎ (63 < length (distinct (heads_in ts)))

-- The numbers of words and of heads are within the limits; no more than 63 words are ever noted.
abbrev pub CountsWithin : ℕ → ℕ → Type 0
CountsWithin words heads = (1 ≤ words) × (1 ≤ heads) × (heads ≤ 24)

-- The code of a word's spelling, if some word is spelled so.
abbrev pub word_code_told : List (List ℕ) → List ℕ → Option ℕ
word_code_told words x = cond (member x words) (Some (1 + index_of x words)) None

-- The code of a name, if it is a head.
abbrev pub name_code_told : List (List ℕ) → List (List ℕ) → List ℕ → Option ℕ
name_code_told words heads x = cond (member x heads) (Some (name_code words heads x)) None

-- The spelling of a code: words first, then heads.
abbrev pub spelling_told : List (List ℕ) → List (List ℕ) → ℕ → Option (List ℕ)
spelling_told words heads zero = None
spelling_told words heads (suc i) = slice_get (words ++ heads) i
