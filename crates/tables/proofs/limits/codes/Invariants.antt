use Rattle.std.proofs.Common.{◌≡◌, ℕ, ◌<◌, ◌≤◌, get_or}
use Rattle.grammar.specs.Grammar.{right_side}
use Rattle.tables.proofs.limits.codes.Given as goal

abbrev pub invariant-loop-place : goal.invariant-loop-place
invariant-loop-place g l = (d : ℕ) → d < l.place → (get_or l.right d 0 ≡ get_or (right_side (g.S.RuleSheet.meaning l.sheet) l.rule) d 0) × (1 ≤ get_or l.right d 0) × (get_or l.right d 0 ≤ l.top)
