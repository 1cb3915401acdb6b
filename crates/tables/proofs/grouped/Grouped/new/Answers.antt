use Rattle.std.proofs.Common.{arith}
use Rattle.tables.proofs.GroupLoops.{all_zero}
use Rattle.tables.proofs.grouped.Grouped.new.Goals as goal

pub invariant_of-result-clause-rising : goal.invariant_of-result-clause-rising
invariant_of-result-clause-rising c = λ i h. omega (arith, all_zero 2305 i)

pub invariant_of-result-clause-inside : goal.invariant_of-result-clause-inside
invariant_of-result-clause-inside c = λ i. omega (arith, all_zero 2305 i)
