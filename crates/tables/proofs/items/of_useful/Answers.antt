use Rattle.std.proofs.Common.{◌≡◌, rules, sym, subst, None, Some}
use Rattle.std.specs.Result.{result_ok}
use Rattle.tables.specs.Arrays.{grammar_of}
use Rattle.tables.specs.StateItems.{StateItems}
use Rattle.tables.proofs.StateItems.{crowded_none, useful_numbering}
use Rattle.tables.proofs.items.of_useful.Goals as goal

pub returns-in_err-states : goal.returns-in_err-states
returns-in_err-states c =
    let told : c.from_residual.result ≡ None = search rules in
    let none : None ≡ result_ok c.number.result = search rules in
    subst (λ o. StateItems (grammar_of c.args.rules) c.args.state o) (sym told) (crowded_none c.args.rules c.args.state c.number.result c.number.ensures none)

pub of_machine-requires : goal.of_machine-requires
of_machine-requires c =
    let some : Some c.in_ok-states.states ≡ result_ok c.number.result = search rules in
    useful_numbering c.args.rules c.in_ok-states.states c.number.result c.number.ensures some c.requires
