-- Codes from 1 to T + N are terminals and nonterminals.
use Rattle.std.proofs.Common.{ℕ, ◌+◌, ◌≤◌, List}
use Rattle.std.specs.List.{All}
use Rattle.grammar.specs.Grammar.{AllCodes, Grammar}
use Rattle.grammar.proofs.Codes.{symbol_range, symbol_from}

-- The code is within the codes of the sheet.
abbrev pub IsWithin : Grammar → ℕ → Type 0
IsWithin G code = (1 ≤ code) × (code ≤ G.terminals + G.nonterminals)

pub codes_from_within : (G : Grammar) (Xs : List ℕ) → All (IsWithin G) Xs → AllCodes G Xs
codes_from_within G Xs all k d h = let here = all k d h in symbol_from G _ here.0 here.1

pub within_from_codes : (G : Grammar) (Xs : List ℕ) → AllCodes G Xs → All (IsWithin G) Xs
within_from_codes G Xs all k d h = let here = symbol_range G (all k d h) in (here.low, here.high)
