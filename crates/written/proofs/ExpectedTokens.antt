-- Which tokens can follow from a stage between tokens, and that they are those of statements.
use Rattle.std.proofs.Common.{◌≡◌, ℕ, List, [], ◌∷◌, ◌++◌, map, sym, refl, ap, ◌∙◌, subst, append_assoc}
use Rattle.written.specs.Tokens.{Token, name, word, colon, bar, semicolon}
use Rattle.written.specs.Statements.{Symbol, named, quoted, Statement, symbol_token, more_tokens, sheet_tokens}
use Rattle.written.specs.declared.form.Stage.{Stage}
use Rattle.written.specs.declared.form.Stage.TheVariants.{Between, Head, Headed, Body, Name, Word}

-- A token that can stand at a stage, and the stage behind it.
pub data Takes : Stage → Token → Stage → Type 0 where
  head : {bs : List ℕ} → Takes Between (name bs) Headed
  opens : Takes Headed colon Body
  names : {bs : List ℕ} → Takes Body (name bs) Body
  quotes : {bs : List ℕ} → Takes Body (word bs) Body
  divides : Takes Body bar Body
  closes : Takes Body semicolon Between

-- The tokens lead from the stage to the end of a sheet.
abbrev pub Expects : Stage → List Token → Type 0
Expects s [] = s ≡ Between
Expects s (t ∷ ts) = (later : Stage) × Takes s t later × Expects later ts

-- The tokens behind a colon, and those of the statements that follow.
abbrev pub body_tokens : List Symbol → List (List Symbol) → List Statement → List Token
body_tokens first more ss = map symbol_token first ++ (more_tokens more ++ sheet_tokens ss)

pub record BodyTold (ts : List Token) : Type 0 where
  pub first : List Symbol
  pub more : List (List Symbol)
  pub behind : List Statement
  pub is : ts ≡ body_tokens first more behind

pub record HeadedTold (ts : List Token) : Type 0 where
  pub first : List Symbol
  pub more : List (List Symbol)
  pub behind : List Statement
  pub is : ts ≡ colon ∷ body_tokens first more behind

-- What the tokens from a stage on say.
abbrev Told : Stage → List Token → Type 0
Told Between ts = (ss : List Statement) × (ts ≡ sheet_tokens ss)
Told (Head n) ts = Unit {0}
Told Headed ts = HeadedTold ts
Told Body ts = BodyTold ts
Told (Name n) ts = Unit {0}
Told (Word n) ts = Unit {0}

body_more : (t : Symbol) (ts : List Token) → BodyTold ts → BodyTold (symbol_token t ∷ ts)
body_more t ts b = record { first = t ∷ b.first; more = b.more; behind = b.behind; is = ap (λ us. symbol_token t ∷ us) b.is }

-- A right side behind a bar is one more right side.
body_bar : (ts : List Token) → BodyTold ts → BodyTold (bar ∷ ts)
body_bar ts b =
    let same = append_assoc (map symbol_token b.first) (more_tokens b.more) (sheet_tokens b.behind) in
    record { first = []; more = b.first ∷ b.more; behind = b.behind; is = ap (λ us. bar ∷ us) (b.is ∙ sym same) }

told_more : {s later : Stage} {t : Token} (ts : List Token) → Takes s t later → Told later ts → Told s (t ∷ ts)
told_more ts (head {bs}) b =
    let same = append_assoc (map symbol_token b.first) (more_tokens b.more) (sheet_tokens b.behind) in
    (record { head = bs; first = b.first; more = b.more } ∷ b.behind, ap (λ us. name bs ∷ us) (b.is ∙ ap (λ us. colon ∷ us) (sym same)))
told_more ts opens b = record { first = b.first; more = b.more; behind = b.behind; is = ap (λ us. colon ∷ us) b.is }
told_more ts (names {bs}) b = body_more (named bs) ts b
told_more ts (quotes {bs}) b = body_more (quoted bs) ts b
told_more ts divides b = body_bar ts b
told_more ts closes b = record { first = []; more = []; behind = b.0; is = ap (λ us. semicolon ∷ us) b.1 }

told : (ts : List Token) (s : Stage) → Expects s ts → Told s ts
told [] s e = subst (λ v. Told v []) (sym e) ([], refl)
told (t ∷ ts) s e = told_more ts e.1 (told ts e.0 e.2)

-- Tokens that lead from between statements to the end are those of statements.
pub statements_told : (ts : List Token) → Expects Between ts → (ss : List Statement) × (ts ≡ sheet_tokens ss)
statements_told ts e = told ts Between e

symbols_expected : (a : List Symbol) (ts : List Token) → Expects Body ts → Expects Body (map symbol_token a ++ ts)
symbols_expected [] ts e = e
symbols_expected (named bs ∷ a) ts e = (Body, names, symbols_expected a ts e)
symbols_expected (quoted bs ∷ a) ts e = (Body, quotes, symbols_expected a ts e)

more_expected : (more : List (List Symbol)) (ts : List Token) → Expects Between ts → Expects Body (more_tokens more ++ ts)
more_expected [] ts e = (Between, closes, e)
more_expected (a ∷ more) ts e = (Body, divides, subst (Expects Body) (sym (append_assoc (map symbol_token a) (more_tokens more) ts)) (symbols_expected a (more_tokens more ++ ts) (more_expected more ts e)))

-- The tokens of statements lead from between statements to the end.
pub statements_expected : (ss : List Statement) → Expects Between (sheet_tokens ss)
statements_expected [] = refl
statements_expected (s ∷ ss) =
    let body = symbols_expected s.first (more_tokens s.more ++ sheet_tokens ss) (more_expected s.more (sheet_tokens ss) (statements_expected ss)) in
    (Headed, head, (Body, opens, subst (Expects Body) (sym (append_assoc (map symbol_token s.first) (more_tokens s.more) (sheet_tokens ss))) body))
