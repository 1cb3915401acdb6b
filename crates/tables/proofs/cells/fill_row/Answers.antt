use Rattle.std.proofs.Common.{◌≡◌, ◌+◌, ◌*◌, ◌≤◌, [], get_or, rules, sym, subst, arith}
use Rattle.gather.specs.Members.{no_members}
use Rattle.tables.specs.RowMeaning.{RowUpto}
use Rattle.tables.specs.Rows.{reduced}
use Rattle.tables.proofs.FilledStates.{row_rule, row_no_rule, last_word}
use Rattle.tables.proofs.cells.fill_row.Goals as goal
use Rattle.tables.proofs.cells.fill_row.Goals.{then-ne, else-ne}

pub loop-rule-preserved : goal.loop-rule-preserved
loop-rule-preserved c =
    let R = c.args.machine.now.rules in
    let S = c.args.machine.now.states in
    let s = c.args.state in
    let r = c.loop-rule.rule in
    let l = c.args.lookaheads.now in
    let row = c.loop-rule.row in
    let high : r ≤ R.count = omega (arith, c.loop-rule-test.true) in
    let n = R.terminals + 1 in
    let small : n ≤ 64 = omega (arith, R.terminals63) in
    elim c.if-ne.branch [
      | then-ne w ↦
          (let done =
          row_rule R S s l c.requires.lookaheads c.requires.state r c.loop-rule.auto.rule high row n small
          c.loop-rule.invariant in
          subst (λ t. RowUpto R S s (64 * (r + 1)) t) (sym w.row-is)
          (subst (λ t. RowUpto R S s (64 * (r + 1)) t) (sym w.reduce.ensures)
          (subst
          (λ i. RowUpto R S s (64 * (r + 1)) (reduced (get_or (get_or l s []) i no_members) r n row))
          (sym c.from.ensures) (last_word R S s r n _ (omega arith) small done))))
      | else-ne w ↦
          (let none : get_or (get_or l s []) c.from.result no_members ≡ no_members = search rules in
          let here = subst (λ i. get_or (get_or l s []) i no_members ≡ no_members) c.from.ensures none in
          subst (λ t. RowUpto R S s (64 * (r + 1)) t) (sym w.row-is)
          (row_no_rule R S s l c.requires.lookaheads c.requires.state r c.loop-rule.auto.rule high row here
          c.loop-rule.invariant))
    ]
