use Rattle.std.proofs.Common.{◌&&◌, ltb, sym, ap, ◌∙◌}
use Rattle.std.proofs.lemmas.Bool.{and_left, lt-ltb, le-ltb}
use Rattle.grammar.specs.ItemLists.{items_of}
use Rattle.grammar.specs.StateLists.{has_at, state_at}
use Rattle.tables.proofs.machine.Machine.has_item.Goals as goal

pub returns-then-state-self : goal.returns-then-state-self
unfolding has_at
returns-then-state-self c =
    let S = c.args.self.now.states in
    let s = c.args.state in
    c.in_set.ensures ∙ sym (ap (λ t. t && items_of (state_at S.sets s) c.args.rule c.args.dot) (lt-ltb s S.count c.if-state-self.true))

pub returns-else-state-self : goal.returns-else-state-self
unfolding has_at
returns-else-state-self c =
    let S = c.args.self.now.states in
    let s = c.args.state in
    let past = le-ltb s S.count c.if-state-self.false in
    past ∙ sym (and_left (ltb s S.count) (items_of (state_at S.sets s) c.args.rule c.args.dot) past)
