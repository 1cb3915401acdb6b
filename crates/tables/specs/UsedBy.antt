-- From each code to the nonterminals that use it: the left sides of the rules with the code on their right.
use Rattle.std.specs.Prelude.{ℕ, cond, List, map, ◌==◌, slice_index}
use Rattle.std.specs.List.{list_any, range_with_len}
use Rattle.tables.specs.declared.rules.Rules.{Rules}
use Rattle.tables.specs.Arrays.{codes_at}

-- What uses the code by the rule: its left side, where the code stands on its right, and else only the code itself.
unfoldable pub user_by : Rules → ℕ → ℕ → ℕ
user_by R X r = cond (list_any (λ code. code == X) (codes_at R r)) (slice_index R.left r) X

-- What uses the code, by each rule in turn.
unfoldable pub users : Rules → ℕ → List ℕ
users R X = map (user_by R X) (range_with_len 1 R.count)
