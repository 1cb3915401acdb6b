-- What a sheet tells of its rules: none exactly outside the rule numbers 1 to P, or outside the right side.
use Rattle.std.specs.Prelude.{ℕ, zero, suc, length, Some, None, Option}
use Rattle.std.specs.List.{slice_get}
use Rattle.grammar.specs.Grammar.{Rule, Grammar}

-- The rule with this number.
abbrev pub rule_told : Grammar → ℕ → Option Rule
rule_told G zero = None
rule_told G (suc i) = slice_get G.rules i

abbrev pub left_of : Option Rule → Option ℕ
left_of None = None
left_of (Some r) = Some r.left

abbrev pub length_of : Option Rule → Option ℕ
length_of None = None
length_of (Some r) = Some (length r.right)

abbrev pub code_of : Option Rule → ℕ → Option ℕ
code_of None place = None
code_of (Some r) place = slice_get r.right place

-- The left side, the length, and the code at a place from 0, of the rule with this number.
abbrev pub left_told : Grammar → ℕ → Option ℕ
left_told G rule = left_of (rule_told G rule)

abbrev pub length_told : Grammar → ℕ → Option ℕ
length_told G rule = length_of (rule_told G rule)

abbrev pub code_told : Grammar → ℕ → ℕ → Option ℕ
code_told G rule place = code_of (rule_told G rule) place
