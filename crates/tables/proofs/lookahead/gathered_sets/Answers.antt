use Rattle.std.proofs.Common.{arith}
use Rattle.tables.proofs.FollowSets.{follow_sets}
use Rattle.tables.proofs.ReadSets.{read_sets}
use Rattle.tables.proofs.lookahead.gathered_sets.Goals as goal

pub returns : goal.returns
returns c =
    let m = c.args.machine.now in
    let reads = read_sets m.rules m.states c.args.null.now c.requires.marks c.direct_by_place-sets.result c.gather-gathered.new.values (omega arith) c.direct_by_place-sets.ensures (c.gather-gathered.ensures.gathered (omega arith)).1 in
    let g = c.requires.includes in
    follow_sets m.rules m.states g.steps c.args.includes.now g.all g.groups c.gather-gathered.new.values c.gather-gathered-2.new.values (omega arith) reads (c.gather-gathered-2.ensures.gathered (omega arith)).1
