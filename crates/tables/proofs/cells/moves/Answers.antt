use Rattle.std.proofs.Common.{◌≡◌, ◌+◌, ◌*◌, replicate, None, sym, refl, ap, ◌∙◌, subst, arith}
use Rattle.grammar.specs.Cells.{may_accept}
use Rattle.grammar.specs.declared.action.Action.TheVariants.{Shift, Accept}
use Rattle.tables.specs.declared.row.Row.{Row}
use Rattle.tables.specs.RowMeaning.{RowUpto}
use Rattle.tables.proofs.Gotos.{goto_target}
use Rattle.tables.proofs.FilledStates.{row_first, row_move, row_no_move, no_shift, no_accept, shift, last_word}
use Rattle.tables.proofs.cells.moves.Goals as goal
use Rattle.tables.proofs.cells.moves.Goals.{then-has_item, else-has_item, in-Some, in_default}

empty : Row
empty = record { cells = replicate 64 None; conflict = None }

pub loop-word-init : goal.loop-word-init
unfolding empty
loop-word-init c =
    let m = c.args.machine.now in
    let s = c.args.state in
    let first = row_first m.rules m.states s empty refl refl in
    elim c.if-has_item.branch [
      | then-has_item w ↦ (ap (λ (t : Row). t.conflict) w.row-is, subst (λ t. RowUpto m.rules m.states s 1 t) (sym w.row-is) (row_move m.rules m.states s 0 Accept empty (omega arith) refl (may_accept (sym w.if-has_item.ensures)) refl first))
      | else-has_item w ↦ (ap (λ (t : Row). t.conflict) w.row-is, subst (λ t. RowUpto m.rules m.states s 1 t) (sym w.row-is) (row_no_move m.rules m.states s 0 empty (omega arith) (no_accept m.rules m.states s (sym w.if-has_item.ensures)) first))
    ]

pub overflow_cast-row : goal.overflow_cast-row
overflow_cast-row c =
    let S = c.args.machine.now.states in
    omega (arith, goto_target c.args.machine.now.rules S c.args.state c.loop-word.word c.in-Some.target c.in-Some.ensures, S.few)

pub loop-word-preserved : goal.loop-word-preserved
loop-word-preserved c =
    let R = c.args.machine.now.rules in
    let S = c.args.machine.now.states in
    let s = c.args.state in
    let w = c.loop-word.word in
    let row = c.loop-word.row in
    elim c.match-goto.branch [
      | in-Some v ↦ (
        ap (λ (t : Row). t.conflict) v.row-is ∙ c.loop-word.invariant.0,
        subst (λ t. RowUpto R S s (w + 1) t) (sym v.row-is)
            (row_move R S s w (Shift v.in-Some.target) row (omega (arith, c.loop-word-test.true, c.from-word-end.ensures, R.terminals63)) refl (shift R S s w v.in-Some.target c.loop-word.auto.word (omega (arith, c.loop-word-test.true, c.from-word-end.ensures)) v.in-Some.ensures) c.loop-word.invariant.0 c.loop-word.invariant.1),
      )
      | in_default v ↦ (
        ap (λ (t : Row). t.conflict) v.row-is ∙ c.loop-word.invariant.0,
        subst (λ t. RowUpto R S s (w + 1) t) (sym v.row-is)
            (row_no_move R S s w row (omega (arith, c.loop-word-test.true, c.from-word-end.ensures, R.terminals63)) (no_shift R S s w c.loop-word.auto.word v.in_default.ensures) c.loop-word.invariant.1),
      )
    ]

pub returns : goal.returns
returns c =
    let R = c.args.machine.now.rules in
    let S = c.args.machine.now.states in
    let w = c.loop-word.word in
    last_word R S c.args.state 0 w c.loop-word.row (omega (arith, c.loop-word-test.false, c.from-word-end.ensures)) (omega (arith, c.loop-word.auto.word-end (omega arith), c.from-word-end.ensures, R.terminals63))
    (subst (λ m. RowUpto R S c.args.state m c.loop-word.row) (let e : w ≡ 64 * 0 + w = omega arith in e) c.loop-word.invariant.1)
