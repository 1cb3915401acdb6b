use Rattle.std.proofs.Common.{◌≡◌, filter}
use Rattle.std.specs.List.{range_with_len}
use Rattle.bounded.specs.BoundedList.{listed}
use Rattle.tables.specs.ReadSteps.{passes}
use Rattle.tables.proofs.reads.leading.Given as goal

abbrev pub invariant-loop-number : goal.invariant-loop-number
invariant-loop-number l = listed l.numbers ≡ filter (passes l.machine.rules l.machine.states l.null l.state) (range_with_len 0 l.number)
