use Rattle.std.proofs.Common.{rules}
use Rattle.std.proofs.lemmas.Bool.{cond-true, cond-false}
use Rattle.tables.specs.UsedBy.{user_by}
use Rattle.tables.proofs.useful.user.Goals as goal

pub returns-then-stands_in : goal.returns-then-stands_in
unfolding user_by
returns-then-stands_in c = search (rules, cond-true, cond-false)

pub returns-else-stands_in : goal.returns-else-stands_in
unfolding user_by
returns-else-stands_in c = search (rules, cond-true, cond-false)
