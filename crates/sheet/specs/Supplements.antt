-- A grammar with rules behind those of another, and what it is to add one more.
use Rattle.std.specs.Prelude.{◌≡◌, ℕ, ◌+◌, ◌-◌, ◌≤◌, List, [], ◌∷◌, ◌++◌, map, length, take}
use Rattle.bounded.specs.BoundedList.{listed}
use Rattle.grammar.specs.Grammar.{AllCodes, Grammar, IsNonterminal, Rule}
use Rattle.grammar.specs.Refusals.{Told}
use Rattle.sheet.specs.AddRefusals.{limits_told, range_told}
use Rattle.sheet.specs.ShortRules.{rule_of}
use Rattle.sheet.specs.declared.supplement.Supplement.{Supplement}

-- The rules below, and behind them others, as far as 96 in all.
abbrev pub with_rules : Grammar → List Rule → Grammar
with_rules G own = record { terminals = G.terminals; nonterminals = G.nonterminals; rules = G.rules ++ take (96 - length G.rules) own }

-- The grammar with one more rule behind its others.
abbrev pub with_rule : Grammar → ℕ → List ℕ → Grammar
with_rule G left codes = record { terminals = G.terminals; nonterminals = G.nonterminals; rules = G.rules ++ record { left = left; right = codes } ∷ [] }

-- With one more rule there are at most 96, at most 16 of its own, and it has at most eight codes.
abbrev pub WithinLimits : Grammar → ℕ → List ℕ → Type 0
WithinLimits G own codes = (length G.rules + 1 ≤ 96) × (own + 1 ≤ 16) × (length codes ≤ 8)

-- The left side is a nonterminal, and each code a terminal or a nonterminal.
abbrev pub InRange : Grammar → ℕ → List ℕ → Type 0
InRange G left codes = IsNonterminal G left × AllCodes G codes

-- What a refusal tells: 3 past a limit, else 4 with the number that the rule would have had.
pub data NotAdded (G : Grammar) (own left : ℕ) (codes : List ℕ) : Told → Type 0 where
  limits : (WithinLimits G own codes → ⊥) → NotAdded G own left codes limits_told
  range : WithinLimits G own codes
      → (InRange G left codes → ⊥)
      → NotAdded G own left codes (range_told (length G.rules + 1))

module _ {S : Type 0} where
  -- The rules of its own.
  abbrev pub own_rules : Supplement S → List Rule
  own_rules x = map rule_of (listed x.own)

  -- What a supplement means, by what the sheet below means.
  abbrev pub supplemented : (S → Grammar) → Supplement S → Grammar
  supplemented below x = with_rules (below x.sheet) (own_rules x)

-- The rule is added behind the others, over the same sheet.
pub record Added {S : Type 0} (below : S → Grammar) (before : Supplement S) (left : ℕ) (codes : List ℕ) (after : Supplement S) : Type 0 where
  pub limits : WithinLimits (supplemented below before) (length (own_rules before)) codes
  pub range : InRange (supplemented below before) left codes
  pub sheet : after.sheet ≡ before.sheet
  pub appended : supplemented below after ≡ with_rule (supplemented below before) left codes
  pub own : own_rules after ≡ own_rules before ++ record { left = left; right = codes } ∷ []

module _ {S : Type 0} (below : S → Grammar) where
  -- The rules are those below and all of its own: none is cut off at 96.
  abbrev pub Uncut : Supplement S → Type 0
  Uncut x = (supplemented below x).rules ≡ (below x.sheet).rules ++ own_rules x

  -- Made of a sheet alone, and then by adding rules.
  pub data Made : Supplement S → Type 0 where
    alone : {x : Supplement S} → own_rules x ≡ [] → Made x
    added : {x y : Supplement S} {left : ℕ} {codes : List ℕ}
        → Made x
        → Added below x left codes y
        → Made y

  -- Of what was made so nothing is ever cut off.
  abbrev pub NeverCut : Type 0
  NeverCut = (x : Supplement S) → Made x → Uncut x
