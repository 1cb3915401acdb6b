use Rattle.std.proofs.Common.{take, rules, tests}
use Rattle.std.proofs.lemmas.Iterator.{IsFirst-from_position, YieldsList-from_slice, YieldsList-from_zip}
use Rattle.tables.proofs.Fingerprints.{Like, Unlike, first_state}
use Rattle.tables.proofs.lookup.Lookup.find.Goals as goal

pub returns : goal.returns
returns c =
    let L = c.args.self.now in
    let S = L.states in
    let items = c.args.items.now in
    let print = c.args.print in
    first_state L.end S.count S.sets L.prints L.printed items c.position.result print c.requires S.few S.setslength
    (IsFirst-from_position c.position.new.self _ _ (Like print items) (Unlike print items) c.position.ensures.ran (YieldsList-from_zip (YieldsList-from_slice (take S.count S.sets) cc) (YieldsList-from_slice L.prints cc)) (λ x q k. search (rules, tests)) (λ x q k. search (rules, tests)))
