use Rattle.std.proofs.Common.{take}
use Rattle.gather.specs.Stack.{Completed}
use Rattle.gather.proofs.walk.complete.Given as goal

abbrev pub invariant-loop-place : goal.invariant-loop-place
invariant-loop-place g l =
    Completed g.J.Join.NONE l.«value» (take l.place-index l.places)
    l.initial.values l.values l.initial.visits l.visits
