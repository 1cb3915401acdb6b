-- What follows where a sheet is not read.
use Rattle.grammar.specs.Grammar.{Grammar}
use Rattle.grammar.specs.Outcome.{Outcome, refused}
use Rattle.grammar.specs.Outcome as outcome
use Rattle.grammar.specs.Refusals.{Told}
use Rattle.tables.specs.Admitted.{Unread, off_limits, out_of_range}

-- Building it is refused so.
pub unread_told : (G : Grammar) {t : Told} → Unread G t → Outcome G (refused t)
unread_told G (off_limits h) = outcome.off_limits h
unread_told G (out_of_range w l) = outcome.out_of_range w l
