use Rattle.std.proofs.Common.{◌≡◌, List}
use Rattle.gather.specs.Stack.{Sound, snap, top, unseen}
use Rattle.gather.proofs.Turns.{Turn}
use Rattle.gather.proofs.walk.Walk.+traverse.Given as goal

abbrev pub decreases-traverse : goal.decreases-traverse
decreases-traverse g l = unseen l.self.now.visits

abbrev pub invariant-loop-target : goal.invariant-loop-target
invariant-loop-target g l = record {
  can : (goal.iterator-loop-target g).can_next l.target-iterator;
  finite : (goal.iterator-loop-target g).is_finite l.target-iterator;
  relation : l.target-iterator.relation.now ≡ l.relation;
  place : l.target-iterator.place ≡ l.place;
  turn : (seeds : List _)
      → Sound g.J.Join.NONE g.J.Join.op (g.R.Relation.targets l.relation) seeds (snap l.fn.self)
      → Turn g.J.Join.NONE g.J.Join.op (g.R.Relation.targets l.relation) seeds
      (snap l.fn.self) (snap l.self) l.place (top (snap l.fn.self)) l.target-iterator.k;
}
