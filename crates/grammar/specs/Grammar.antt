-- Grammars. Code 0 is the end mark, codes 1 to T are the terminals, and codes T + 1 to T + N the nonterminals, of which T + 1 is the start.
use Rattle.std.specs.Prelude.{ℕ, zero, suc, ◌+◌, ◌<◌, ◌≤◌, ◌⊎◌, List, [], ◌∷◌, length, slice_index_or, All}

-- A rule puts the codes on its right in the place of the nonterminal on its left.
pub record Rule : Type 0 where
  pub left : ℕ
  pub right : List ℕ

-- The number T of terminals, the number N of nonterminals, and the rules, which are numbered from 1.
pub record Grammar : Type 0 where
  pub terminals : ℕ
  pub nonterminals : ℕ
  pub rules : List Rule

-- The grammar with counts 0 and no rule.
abbrev pub nothing : Grammar
nothing = record { terminals = 0; nonterminals = 0; rules = [] }

-- The start.
unfoldable pub start : Grammar → ℕ
start G = suc G.terminals

-- What stands for a rule outside the rule numbers.
unfoldable pub no_rule : Rule
no_rule = record { left = 0; right = [] }

-- The left side of a rule. Rule 0 is added to every grammar; its left side is no nonterminal.
unfoldable pub left_side : Grammar → ℕ → ℕ
left_side G zero = 0
left_side G (suc i) = (slice_index_or G.rules i no_rule).left

-- The right side of a rule. That of rule 0 is the start and the end mark; the mark is never moved over, so that it is left out here, and rule 0 with its dot at 1 has it before the end mark.
unfoldable pub right_side : Grammar → ℕ → List ℕ
right_side G zero = start G ∷ []
right_side G (suc i) = (slice_index_or G.rules i no_rule).right

pub record IsTerminal (G : Grammar) (a : ℕ) : Type 0 where
  pub low : 1 ≤ a
  pub high : a ≤ G.terminals

pub record IsNonterminal (G : Grammar) (X : ℕ) : Type 0 where
  pub low : G.terminals < X
  pub high : X ≤ G.terminals + G.nonterminals

-- The number of a rule of the sheet, from 1.
pub record IsRule (G : Grammar) (r : ℕ) : Type 0 where
  pub low : 1 ≤ r
  pub high : r ≤ length G.rules

abbrev pub AllTerminals : Grammar → List ℕ → Type 0
AllTerminals G ws = All (IsTerminal G) ws

abbrev pub IsSymbol : Grammar → ℕ → Type 0
IsSymbol G X = IsTerminal G X ⊎ IsNonterminal G X

-- Every code is a terminal or a nonterminal.
abbrev pub AllCodes : Grammar → List ℕ → Type 0
AllCodes G Xs = All (IsSymbol G) Xs

-- A nonterminal stands on every left side, and terminals and nonterminals on every right side; and there is a start.
pub record Valid (G : Grammar) : Type 0 where
  pub some_nonterminal : 1 ≤ G.nonterminals
  pub lefts : (r : ℕ) → IsRule G r → IsNonterminal G (left_side G r)
  pub rights : (r : ℕ) → IsRule G r → AllCodes G (right_side G r)
