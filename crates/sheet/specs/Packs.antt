-- What it is to write the packing of a grammar into a list.
use Rattle.std.specs.Prelude.{◌≡◌, ℕ, ◌+◌, ◌<◌, ◌≤◌, List, ◌++◌, length, take, drop, slice_index, slice_index_or}
use Rattle.grammar.specs.Grammar.{Grammar, Rule, no_rule}
use Rattle.sheet.specs.Packing.{bodies, packed}

-- Each number has at most 16 bits.
abbrev pub Narrow : List ℕ → Type 0
Narrow ns = (k : ℕ) → k < length ns → slice_index ns k < 65536

-- The rule after rule i.
abbrev pub rule_at : Grammar → ℕ → Rule
rule_at G i = slice_index_or G.rules i no_rule

-- Where the body of the rule after rule i begins.
abbrev pub begins : Grammar → ℕ → ℕ
begins G i = 3 + length G.rules + length (bodies (take i G.rules))

-- Each place of the contents has at most 16 bits.
abbrev pub NarrowPlaces : Grammar → Type 0
NarrowPlaces G = (i : ℕ) → i < length G.rules → begins G i < 65536

-- The packing stands in front, n numbers long, and the rest of the list is as it was.
pub record Packs (G : Grammar) (before after : List ℕ) (n : ℕ) : Type 0 where
  pub count : n ≡ length (packed G)
  pub room : length (packed G) ≤ length before
  pub narrow : Narrow (packed G)
  pub done : after ≡ packed G ++ drop n before

-- The list is too short, or a place of the packing has more than 16 bits; the list is as it was.
pub record PacksNot (G : Grammar) (before after : List ℕ) : Type 0 where
  pub unfit : length (packed G) ≤ length before → Narrow (packed G) → ⊥
  pub kept : after ≡ before
