-- Tokens are those of one list of statements: the list that is read off them from the end.
use Rattle.std.proofs.Common.{◌≡◌, ℕ, List, [], ◌∷◌, ◌++◌, map, sym, refl, ap, ◌∙◌, append_assoc}
use Rattle.written.specs.Tokens.{Token, name, word, colon, bar, semicolon, Placed, tokens}
use Rattle.written.specs.Statements.{Symbol, named, quoted, Statement, symbol_token, more_tokens, sheet_tokens, Written}
use Rattle.written.proofs.UniqueTokens.{laid_unique}

-- What tokens say behind a colon, or a head, or as statements.
record View : Type 0 where
  first : List Symbol
  more : List (List Symbol)
  behind : List Statement
  statements : List Statement

abbrev symbol_view : Symbol → View → List Statement → View
symbol_view x v ss = record { first = x ∷ v.first; more = v.more; behind = v.behind; statements = ss }

abbrev token_view : Token → View → View
token_view (name bs) v = symbol_view (named bs) v (record { head = bs; first = v.first; more = v.more } ∷ v.behind)
token_view (word bs) v = symbol_view (quoted bs) v []
token_view colon v = record { first = v.first; more = v.more; behind = v.behind; statements = [] }
token_view bar v = record { first = []; more = v.first ∷ v.more; behind = v.behind; statements = [] }
token_view semicolon v = record { first = []; more = []; behind = v.statements; statements = [] }

abbrev view : List Token → View
view [] = record { first = []; more = []; behind = []; statements = [] }
view (t ∷ ts) = token_view t (view ts)

-- What a right side, and what follows it, says.
record Says (ts : List Token) (first : List Symbol) (more : List (List Symbol)) (behind : List Statement) : Type 0 where
  first_is : (view ts).first ≡ first
  more_is : (view ts).more ≡ more
  behind_is : (view ts).behind ≡ behind

symbols_say : (a : List Symbol) (ts : List Token) (more : List (List Symbol)) (behind : List Statement) → Says ts [] more behind → Says (map symbol_token a ++ ts) a more behind
symbols_say [] ts more behind s = s
symbols_say (named bs ∷ a) ts more behind s = let r = symbols_say a ts more behind s in record { first_is = ap (λ x. named bs ∷ x) r.first_is; more_is = r.more_is; behind_is = r.behind_is }
symbols_say (quoted bs ∷ a) ts more behind s = let r = symbols_say a ts more behind s in record { first_is = ap (λ x. quoted bs ∷ x) r.first_is; more_is = r.more_is; behind_is = r.behind_is }

more_say : (more : List (List Symbol)) (ts : List Token) → Says (more_tokens more ++ ts) [] more (view ts).statements
more_say [] ts = record { first_is = refl; more_is = refl; behind_is = refl }
more_say (a ∷ more) ts =
    let r = symbols_say a (more_tokens more ++ ts) more (view ts).statements (more_say more ts) in
    let apart = append_assoc (map symbol_token a) (more_tokens more) ts in
    record { first_is = refl; more_is = ap (λ us. (view us).first ∷ (view us).more) apart ∙ (λ i. r.first_is i ∷ r.more_is i); behind_is = ap (λ us. (view us).behind) apart ∙ r.behind_is }

sheet_says : (ss : List Statement) → (view (sheet_tokens ss)).statements ≡ ss
sheet_says [] = refl
sheet_says (s ∷ ss) =
    let ts = sheet_tokens ss in
    let r = symbols_say s.first (more_tokens s.more ++ ts) s.more (view ts).statements (more_say s.more ts) in
    let apart = append_assoc (map symbol_token s.first) (more_tokens s.more) ts in
    ap (λ us. record { head = s.head; first = (view us).first; more = (view us).more } ∷ (view us).behind) apart
    ∙ (λ i. record { head = s.head; first = r.first_is i; more = r.more_is i } ∷ (r.behind_is ∙ sheet_says ss) i)

pub statements_unique : (ss rs : List Statement) → sheet_tokens ss ≡ sheet_tokens rs → ss ≡ rs
statements_unique ss rs e = sym (sheet_says ss) ∙ ap (λ ts. (view ts).statements) e ∙ sheet_says rs

-- A text is written in one way: of one list of tokens, and of one list of statements.
pub written_unique : (text : List ℕ) (ts us : List Placed) (ss rs : List Statement) → Written text ts ss → Written text us rs → (ts ≡ us) × (ss ≡ rs)
written_unique text ts us ss rs v w =
    let same = laid_unique v.laid w.laid in
    (same, statements_unique ss rs (sym v.tokens_are ∙ ap tokens same ∙ w.tokens_are))
