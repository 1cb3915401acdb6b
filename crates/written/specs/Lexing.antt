-- What the lexer answers, against the tokens that lie in the text.
use Rattle.std.specs.Prelude.{◌≡◌, ℕ, ◌-◌, Bool, not, List, [], ◌∷◌, length, take, drop}
use Rattle.std.specs.Prelude.{Some, None, Option, ◌==◌}
use Rattle.written.specs.Tokens as spec
use Rattle.written.specs.Tokens.{Placed, Laid, spelling}
use Rattle.written.specs.declared.lexer.Mark.{Mark}
use Rattle.written.specs.declared.lexer.Mark.TheVariants.{Colon, Bar, Semicolon}
use Rattle.written.specs.declared.lexer.Part.{Part}
use Rattle.written.specs.declared.lexer.Token.{Token}
use Rattle.written.specs.declared.lexer.Token.TheVariants as tok
use Rattle.written.specs.declared.lexer.Found.{Found}

abbrev pub not_quote : ℕ → Bool
not_quote b = not (b == 34)

abbrev pub mark_of : Mark → spec.Token
mark_of Colon = spec.colon
mark_of Bar = spec.bar
mark_of Semicolon = spec.semicolon

-- The token that the program found; a word's quote stands before its part.
abbrev pub placed_of : Token → Placed
placed_of (tok.Name p) = record { place = p.at; token = spec.name p.bytes.now }
placed_of (tok.Word p) = record { place = p.at - 1; token = spec.word p.bytes.now }
placed_of (tok.Mark p m) = record { place = p.at; token = mark_of m }

-- The bytes of a part are those at its place in the text.
abbrev pub IsPart : List ℕ → Part → Type 0
IsPart text p = p.bytes.now ≡ take (length p.bytes.now) (drop p.at text)

-- Each token has a part of the text, and a mark's is what the mark is spelled.
abbrev pub Borrows : List ℕ → Token → Type 0
Borrows text (tok.Name p) = IsPart text p
Borrows text (tok.Word p) = IsPart text p
Borrows text (tok.Mark p m) = IsPart text p × (p.bytes.now ≡ spelling (mark_of m))

-- The answer is the first of the tokens, and the others lie in the text behind it; or there is none.
abbrev pub Starts : List ℕ → Option Found → List Placed → Type 0
Starts text None ts = ts ≡ []
Starts text (Some f) ts = (rest : List Placed) × (ts ≡ placed_of f.token ∷ rest) × Laid f.after rest (drop f.after text)
