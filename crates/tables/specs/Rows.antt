-- The cells of one state as they are filled, by rising rule.
use Rattle.std.specs.Prelude.{ℕ, zero, suc, cond, Some, None, nat_lt, slice_index_or, slice_set, Option}
use Rattle.gather.specs.Members.{has}
use Rattle.gather.specs.declared.word_set.WordSet.{WordSet}
use Rattle.grammar.specs.declared.action.Action.{Action}
use Rattle.grammar.specs.declared.action.Action.TheVariants.{Reduce}
use Rattle.tables.specs.declared.conflict.Conflict.{Conflict}
use Rattle.tables.specs.declared.row.Row.{Row}

-- The conflict with the lower word; the old one if they have the same.
abbrev pub lowest_of : Option Conflict → Conflict → Option Conflict
lowest_of None x = Some x
lowest_of (Some k) x = cond (nat_lt x.word k.word) (Some x) (Some k)

-- A row with the reduction by the rule r entered at the word w, where the cell has what is told.
abbrev pub entered_by : Option Action → ℕ → ℕ → Row → Row
entered_by None w r row = record { cells = slice_set row.cells w (Some (Reduce r)); conflict = row.conflict }
entered_by (Some a) w r row = record { cells = row.cells; conflict = lowest_of row.conflict (record { word = w; first = a; second = Reduce r }) }

abbrev pub entered : ℕ → ℕ → Row → Row
entered w r row = entered_by (slice_index_or row.cells w None) w r row

-- The same at all words of the set below n.
unfoldable pub reduced : WordSet → ℕ → ℕ → Row → Row
reduced x r zero row = row
reduced x r (suc n) row = cond (has x n) (entered n r (reduced x r n row)) (reduced x r n row)
