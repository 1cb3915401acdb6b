-- The heads of a sheet, as walks find them.
use Rattle.std.proofs.Common.{◌≡◌, true, false, List, [], ◌∷◌, ◌++◌, map, refl, ap, ◌∙◌}
use Rattle.std.proofs.lemmas.List.{append_assoc}
use Rattle.written.specs.Tokens.{Token}
use Rattle.written.specs.Statements.{Symbol, named, quoted, Statement, symbol_token, more_tokens, sheet_tokens}
use Rattle.written.specs.Walks.{heads_from, heads_in}

-- A right side has no head.
symbols_headless : (a : List Symbol) (k : List Token) → heads_from false (map symbol_token a ++ k) ≡ heads_from false k
symbols_headless [] k = refl
symbols_headless (named n ∷ a) k = symbols_headless a k
symbols_headless (quoted w ∷ a) k = symbols_headless a k

rights_headless : (more : List (List Symbol)) (k : List Token) → heads_from false (more_tokens more ++ k) ≡ heads_from true k
rights_headless [] k = refl
rights_headless (a ∷ more) k = ap (heads_from false) (append_assoc (map symbol_token a) (more_tokens more) k) ∙ symbols_headless a (more_tokens more ++ k) ∙ rights_headless more k

pub heads_in_sheet : (ss : List Statement) → heads_in (sheet_tokens ss) ≡ map (λ s. s.head) ss
heads_in_sheet [] = refl
heads_in_sheet (s ∷ ss) =
    ap (λ l. s.head ∷ heads_from false l) (append_assoc (map symbol_token s.first) (more_tokens s.more) (sheet_tokens ss))
    ∙ ap (λ l. s.head ∷ l) (symbols_headless s.first (more_tokens s.more ++ sheet_tokens ss) ∙ rights_headless s.more (sheet_tokens ss) ∙ heads_in_sheet ss)
