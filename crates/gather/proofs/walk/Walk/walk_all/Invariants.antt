use Rattle.std.proofs.Common.{◌≡◌}
use Rattle.gather.specs.Stack.{snap}
use Rattle.gather.proofs.Ends.{Between}
use Rattle.gather.proofs.walk.Walk.walk_all.Given as goal

abbrev pub invariant-loop-place : goal.invariant-loop-place
invariant-loop-place g l = record {
  lent : l.self.values.ghost_name ≡ l.initial.self.values.ghost_name;
  between : Between g.J.Join.NONE g.J.Join.op (g.R.Relation.targets l.relation)
      l.initial.self.values.now (snap l.self) l.place;
}
