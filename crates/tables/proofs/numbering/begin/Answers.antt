use Rattle.grammar.specs.ItemLists.{origin_list}
use Rattle.tables.proofs.StateArrays.{sofar_first}
use Rattle.tables.proofs.numbering.begin.Goals as goal

pub returns : goal.returns
unfolding origin_list
returns c =
    let S = c.new.result.states in
    sofar_first c.args.rules.now S.count S.sets S.gotos _ c.new.ensures.count S.setslength S.gotoslength c.complete.array_long c.new.ensures.set c.complete.ensures
