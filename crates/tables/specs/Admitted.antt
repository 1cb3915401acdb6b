-- What reading a rule sheet comes to.
use Rattle.std.specs.Prelude.{◌≡◌, ℕ, Ok, Err, Result}
use Rattle.grammar.specs.Grammar.{Grammar}
use Rattle.grammar.specs.Outcome.{Within, LowestOutOfRange}
use Rattle.grammar.specs.Refusals.{Told, limits, range}
use Rattle.tables.specs.declared.build_refusal.BuildRefusal.{BuildRefusal}
use Rattle.tables.specs.declared.rules.Rules.{Rules}
use Rattle.tables.specs.Arrays.{grammar_of}
use Rattle.tables.specs.BuildRefusals.{told}

-- Why a sheet is not read: it is past the limits, or within them with a rule out of range, of which the lowest is told.
pub data Unread (G : Grammar) : Told → Type 0 where
  off_limits : (Within G → ⊥) → Unread G limits
  out_of_range : {r : ℕ} → Within G → LowestOutOfRange G r → Unread G (range r)

-- The rules in the arrays are those of the sheet, or it is not read.
abbrev pub Admitted : Grammar → Result Rules BuildRefusal → Type 0
Admitted G (Ok R) = grammar_of R ≡ G
Admitted G (Err e) = Unread G (told e)
