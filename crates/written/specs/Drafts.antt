-- How the rules of a written sheet come out of its tokens, one by one.
use Rattle.std.specs.Prelude.{◌≡◌, ℕ, ◌<◌, ◌≤◌, true, ◌⊎◌, List, [], ◌∷◌, ◌++◌, map, length, Some, None, Option, Ok, Err, Result}
use Rattle.std.specs.List.{AllByRecursion}
use Rattle.std.specs.Option.{option_map}
use Rattle.bounded.specs.BoundedList.{listed}
use Rattle.bounded.specs.declared.bounded_list.BoundedList.{BoundedList}
use Rattle.bounded.specs.declared.full.Full.{Full}
use Rattle.grammar.specs.Grammar.{Rule}
use Rattle.sheet.specs.ShortRules.{rule_of, with_code}
use Rattle.sheet.specs.declared.short_rule.ShortRule.{ShortRule}
use Rattle.written.specs.Tokens.{Token, name, word, colon, bar, semicolon}
use Rattle.written.specs.Statements.{member, name_code, word_code}
use Rattle.written.specs.WrittenRefusals.{limits_told, told}
use Rattle.written.specs.declared.draft.Draft.{Draft}
use Rattle.written.specs.declared.written_refusal.WrittenRefusal.{WrittenRefusal}

-- The rule that is being read, none between statements, and the rules before it.
pub record Drafted : Type 0 where
  pub rule : Option Rule
  pub rules : List Rule

abbrev pub rule_list : BoundedList ShortRule 96 → List Rule
rule_list rs = map rule_of (listed rs)

abbrev pub drafted : Draft → Drafted
drafted d = record { rule = option_map rule_of d.rule; rules = rule_list d.rules }

abbrev pub draft : Option Rule → List Rule → Drafted
draft rule rules = record { rule = rule; rules = rules }

abbrev pub blank_draft : Drafted
blank_draft = draft None []

-- A name heads a statement where one may begin, and else stands on a right side.
abbrev pub named_rule : Option Rule → ℕ → Option Rule
named_rule None X = Some (record { left = X; right = [] })
named_rule (Some r) X = Some (with_code r X)

-- The rule that begins behind a bar.
abbrev pub next_rule : Rule → Rule
next_rule r = record { left = r.left; right = [] }

abbrev pub with_rule : List Rule → Option Rule → List Rule
with_rule rs None = rs
with_rule rs (Some r) = rs ++ r ∷ []

abbrev pub extended : Drafted → ℕ → Drafted
extended d X = draft (option_map (λ r. with_code r X) d.rule) d.rules

abbrev pub named : Drafted → ℕ → Drafted
named d X = draft (named_rule d.rule X) d.rules

abbrev pub divided : Drafted → Drafted
divided d = draft (option_map next_rule d.rule) (with_rule d.rules d.rule)

abbrev pub closed : Drafted → Drafted
closed d = draft None (with_rule d.rules d.rule)

-- A ninth code, or a 97th rule.
abbrev pub right_of : Option Rule → List ℕ
right_of None = []
right_of (Some r) = r.right

abbrev pub Overfull : Drafted → Type 0
Overfull d = (8 < length (right_of d.rule)) ⊎ (96 < length d.rules)

-- The step was made, or it would have been too much.
abbrev pub Extends : Result (Unit {0}) Full → Drafted → Drafted → Type 0
Extends (Ok x) after step = after ≡ step
Extends (Err e) after step = Overfull step

module _ (terminals nonterminals : List (List ℕ)) where
  -- The token has a code, if it is a name or a word.
  abbrev pub Known : Token → Type 0
  Known (name n) = member n nonterminals ≡ true
  Known (word w) = member w terminals ≡ true
  Known colon = Unit {0}
  Known bar = Unit {0}
  Known semicolon = Unit {0}

  abbrev pub AllKnown : List Token → Type 0
  AllKnown [] = Unit {0}
  AllKnown (t ∷ ts) = Known t × AllKnown ts

  abbrev pub draft_step : Drafted → Token → Drafted
  draft_step d (name n) = named d (name_code terminals nonterminals n)
  draft_step d (word w) = extended d (word_code terminals nonterminals w)
  draft_step d colon = d
  draft_step d bar = divided d
  draft_step d semicolon = closed d

  abbrev pub draft_after : Drafted → List Token → Drafted
  draft_after d [] = d
  draft_after d (t ∷ ts) = draft_after (draft_step d t) ts

-- The token was taken in, or it has a code and would have been too much.
abbrev pub Steps : Result (Unit {0}) WrittenRefusal
    → List (List ℕ)
    → List (List ℕ)
    → Drafted
    → Token
    → Drafted
    → Type 0
Steps (Ok x) terminals nonterminals d t after = after ≡ draft_step terminals nonterminals d t
Steps (Err e) terminals nonterminals d t after = Known terminals nonterminals t
    → (told e ≡ limits_told) × Overfull (draft_step terminals nonterminals d t)

-- All tokens were taken in, or they all have codes and lead through a draft that is too much.
abbrev pub Read : Result (BoundedList ShortRule 96) WrittenRefusal
    → List (List ℕ)
    → List (List ℕ)
    → List Token
    → Type 0
Read (Ok rs) terminals nonterminals ts = rule_list rs ≡ (draft_after terminals nonterminals blank_draft ts).rules
Read (Err e) terminals nonterminals ts = AllKnown terminals nonterminals ts
    → (told e ≡ limits_told)
    × (d : Drafted)
    × Overfull d
    × (rest : List Token)
    × (draft_after terminals nonterminals blank_draft ts
    ≡ draft_after terminals nonterminals d rest)

-- At most 96 rules of at most eight codes.
pub record Fitting (rules : List Rule) : Type 0 where
  pub few : length rules ≤ 96
  pub short : AllByRecursion (λ r. length r.right ≤ 8) rules
