use Rattle.std.proofs.Common.{subst}
use Rattle.std.proofs.lemmas.Result.{err_from_is_err_and}
use Rattle.grammar.specs.Outcome.{Outcome, refused}
use Rattle.tables.specs.BuildRefusals.{told}
use Rattle.tables.proofs.Outcomes.{exact_tables, conflict_told}
use Rattle.tables.proofs.tables.tabled.Goals as goal

pub returns-in_err-cells : goal.returns-in_err-cells
returns-in_err-cells c =
    let m = c.numbered.new.machine in
    let n = c.in_ok-numbered.ensures in
    let p = err_from_is_err_and c.from_residual-in_err-cells.result c.from_residual-in_err-cells.ensures.1 in
    let e = c.in_err-cells.field-0.0 in
    rw (p.1, p.2) (
      c.requires,
      subst (λ G. Outcome G (refused (told e))) n.0
          (conflict_told m.rules m.states n.1 e c.in_err-cells.ensures),
    )

pub hold-requires : goal.hold-requires
hold-requires c =
    let m = c.numbered.new.machine in
    exact_tables m.rules m.states c.in_ok-numbered.ensures.1 c.in_ok-cells.cells c.in_ok-cells.ensures
