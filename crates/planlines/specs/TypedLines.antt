-- What a line says.
use Rattle.std.specs.Prelude.{◌≡◌, ℕ, ◌-◌, ◌==◌, ◌&&◌, not, leb, if◌then◌else◌, List, [], ◌∷◌, map, drop, length, filter, unwrap_or}
use Rattle.std.specs.Borrow.{Bor}
use Rattle.std.specs.List.{slice_split}
use Rattle.written.specs.NamesOf.{word_code_told}
use Rattle.written.specs.WrittenSheets.{contents}
use Rattle.written.specs.declared.written.WrittenSheet.{WrittenSheet}
use Rattle.planlines.specs.declared.typed_line.TypedLine.{TypedLine}

-- The spellings of parts of a line.
abbrev pub spelled : List (Bor (List ℕ)) → List (List ℕ)
spelled parts = map (λ part. part.now) parts

-- The tokens of a line: what stands between its spaces.
abbrev pub tokens_of : List ℕ → List (List ℕ)
tokens_of line = filter (λ token. not (length token == 0)) (slice_split (λ b. b == 32) line)

-- The designer whose digit a token is; any other token is no designer's, and counts as 9.
abbrev pub designer_told : List ℕ → ℕ
designer_told (digit ∷ []) = if leb 48 digit && leb digit 57 then digit - 48 else 9
designer_told _ = 9

-- The code of a word's spelling, or else 0.
abbrev pub code_told : WrittenSheet → List ℕ → ℕ
code_told sheet spelling = unwrap_or (word_code_told (contents sheet).words spelling) 0

-- The first token is the designer's, and no token counts as 9.
abbrev pub first_designer : List (List ℕ) → ℕ
first_designer [] = 9
first_designer (token ∷ tokens) = designer_told token

-- The designer of the first token, and the codes of the others.
abbrev pub LineRead : WrittenSheet → List ℕ → TypedLine → Type 0
LineRead sheet line typed = let tokens = tokens_of line in (typed.designer ≡ first_designer tokens) × (typed.words.items ≡ map (code_told sheet) (drop 1 tokens))
