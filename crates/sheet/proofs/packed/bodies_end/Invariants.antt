use Rattle.std.proofs.Common.{◌≡◌, ℕ, ◌<◌, ◌≤◌, length}
use Rattle.sheet.specs.Packing.{Lies, ends}
use Rattle.sheet.proofs.packed.bodies_end.Given as goal

abbrev pub invariant-loop-rule : goal.invariant-loop-rule
invariant-loop-rule l = (l.at ≡ ends l.numbers l.rule) × (l.at ≤ length l.numbers) × ((j : ℕ) → j < l.rule → Lies l.numbers j)
