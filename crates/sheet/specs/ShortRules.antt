-- The rule that a short rule holds.
use Rattle.std.specs.Prelude.{ℕ, [], ◌∷◌, ◌++◌}
use Rattle.bounded.specs.BoundedList.{listed}
use Rattle.grammar.specs.Grammar.{Rule}
use Rattle.sheet.specs.declared.short_rule.ShortRule.{ShortRule}

abbrev pub rule_of : ShortRule → Rule
rule_of r = record { left = r.left; right = listed r.codes }

-- The rule with one more code on its right.
abbrev pub with_code : Rule → ℕ → Rule
with_code r code = record { left = r.left; right = r.right ++ code ∷ [] }
