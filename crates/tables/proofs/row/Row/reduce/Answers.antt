use Rattle.std.proofs.Common.{sym, ap, ◌∙◌}
use Rattle.gather.specs.Members.{has}
use Rattle.tables.specs.Rows.{entered}
use Rattle.tables.proofs.ReducedRows.{reduced_none, reduced_has, reduced_lacks}
use Rattle.tables.proofs.row.Row.reduce.Goals as goal
use Rattle.tables.proofs.row.Row.reduce.Goals.{then-has, else-has}

pub loop-word-init : goal.loop-word-init
loop-word-init c = sym (reduced_none c.args.lookahead c.args.rule c.args.self.now)

pub loop-word-preserved : goal.loop-word-preserved
loop-word-preserved c =
    let x = c.args.lookahead in
    let r = c.args.rule in
    let row = c.args.self.now in
    let w = c.loop-word.word in
    elim c.if-has.branch [
      | then-has v ↦ v.self-is ∙ v.enter.ensures ∙ ap (entered w r) c.loop-word.invariant ∙ sym (reduced_has x r w row (ap (has x) (sym c.from.ensures) ∙ sym v.if-has.ensures))
      | else-has v ↦ v.self-is ∙ c.loop-word.invariant ∙ sym (reduced_lacks x r w row (ap (has x) (sym c.from.ensures) ∙ sym v.if-has.ensures))
    ]
