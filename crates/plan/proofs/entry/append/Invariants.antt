use Rattle.std.proofs.Common.{◌≡◌, ◌++◌, take}
use Rattle.bounded.specs.BoundedList.{listed}
use Rattle.plan.proofs.entry.append.Given as goal

abbrev pub invariant-loop-code : goal.invariant-loop-code
invariant-loop-code l = listed l.entry ≡ listed l.initial.entry ++ take l.code-index l.codes
