use Rattle.std.proofs.Common.{◌≡◌, ◌+◌, ◌<◌, ◌++◌, length, drop, set, sym, ◌∙◌, subst, arith}
use Rattle.std.proofs.lemmas.List.{length-set, length-take-le, set-append_left, take-append-drop}
use Rattle.std.proofs.lemmas.Result.{err_from_is_err_and}
use Rattle.tables.specs.Cells.{RowsUpto}
use Rattle.tables.proofs.FilledCells.{blank, blank_length, rows_none, rows_more, rows_all, first_conflict}
use Rattle.tables.proofs.cells.fill.Goals as goal

pub loop-state-init : goal.loop-state-init
loop-state-init c =
    let m = c.args.machine.now in
    let n = m.states.count in
    (length-take-le n blank (omega (arith, blank_length, m.states.few)), subst (λ l. RowsUpto m.rules m.states 0 l) (sym (take-append-drop n blank)) (rows_none m.rules m.states))

pub loop-state-preserved : goal.loop-state-preserved
loop-state-preserved c =
    let m = c.args.machine.now in
    let n = c.loop-state.state in
    let rows = c.loop-state.row-items in
    let rest = drop m.states.count blank in
    let row = c.fill_row.result in
    let inside : n < length rows = omega (arith, c.loop-state-test.true, c.loop-state.invariant.0) in
    let cells = c.in_ok-row.ensures.cells in (
      length-set rows n c.in_ok-row.field-0 ∙ c.loop-state.invariant.0,
      subst (λ l. RowsUpto m.rules m.states (n + 1) l) (set-append_left rows rest n c.in_ok-row.field-0 inside)
          (subst (λ r. RowsUpto m.rules m.states (n + 1) (set (rows ++ rest) n r)) (sym cells.1) (rows_more m.rules m.states n (omega (arith, inside, c.loop-state.invariant.0)) (rows ++ rest) c.loop-state.invariant.1 row c.fill_row.ensures cells.0)),
    )

pub returns-in_err-row : goal.returns-in_err-row
returns-in_err-row c =
    let m = c.args.machine.now in
    let n = c.loop-state.state in
    let rows = c.loop-state.row-items in
    let row = c.fill_row.result in
    let told = c.in_err-row.ensures.conflict in
    let p = err_from_is_err_and c.from_residual.result c.from_residual.ensures.1 in
    let k = told.0 in
    let upto = c.loop-state.invariant in
    let low : n < m.states.count = omega (arith, c.loop-state-test.true, upto.0) in
    let all = rows ++ drop m.states.count blank in
    let first = first_conflict m.rules m.states n low all upto.1 row c.fill_row.ensures k told.1 in
    rw (p.1, p.2) (n, k.word, k.first, k.second, told.2, first)

pub returns : goal.returns
returns c =
    let m = c.args.machine.now in
    let cells = c.loop-state.row-items ++ drop m.states.count blank in
    rows_all m.rules m.states cells (subst (λ n. RowsUpto m.rules m.states n cells) (let e : c.loop-state.state ≡ m.states.count = omega (arith, c.loop-state-test.false, c.loop-state.auto.state-end, c.loop-state.invariant.0) in e) c.loop-state.invariant.1)
