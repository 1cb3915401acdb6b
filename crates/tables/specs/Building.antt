-- What building tables comes to.
use Rattle.std.specs.Prelude.{◌≡◌, ℕ, Some, None, Ok, Err, Option, Result}
use Rattle.grammar.specs.Grammar.{Grammar}
use Rattle.grammar.specs.States.{Automaton}
use Rattle.grammar.specs.Outcome.{Outcome, built, refused}
use Rattle.grammar.specs.declared.action.Action.{Action}
use Rattle.tables.specs.declared.build_refusal.BuildRefusal.{BuildRefusal}
use Rattle.tables.specs.declared.full.Full.{Full}
use Rattle.tables.specs.declared.machine.Machine.{Machine}
use Rattle.tables.specs.declared.tables.Tables.{Tables}
use Rattle.tables.specs.Arrays.{grammar_of, automaton}
use Rattle.tables.specs.BuildRefusals.{told}
use Rattle.tables.specs.Cells.{cell_at}
use Rattle.tables.specs.Held.{Held, blank, holding}
use Rattle.tables.specs.Numbering.{UsefulNumbering}

abbrev pub held_by : Option Full → Held
held_by None = blank
held_by (Some f) = holding (grammar_of f.machine.rules) f.machine.states.count (automaton f.machine.rules f.machine.states) (cell_at f.cells)

-- What a value of tables holds.
abbrev pub held : Tables → Held
held t = held_by t.full

-- The rules have numbered states, or are refused as the definitions decide.
abbrev pub NumberedFrom : Grammar → Result (Unit {0}) BuildRefusal → Machine → Type 0
NumberedFrom G (Ok x) m = (grammar_of m.rules ≡ G) × UsefulNumbering m.rules m.states
NumberedFrom G (Err e) m = Outcome G (refused (told e))

-- The rules are tabled, or nothing is and they are refused as the definitions decide.
abbrev pub Tabled : Grammar → Result (Unit {0}) BuildRefusal → Option Full → Type 0
Tabled G (Ok x) None = ⊥
Tabled G (Ok x) (Some f) = grammar_of f.machine.rules ≡ G
Tabled G (Err e) o = (o ≡ None) × Outcome G (refused (told e))

-- Done: the tables hold the grammar with just the states and cells that building it comes to. Refused: they are blank.
abbrev pub BuiltFrom : Grammar → Result (Unit {0}) BuildRefusal → Held → Type 0
BuiltFrom G (Ok x) h = ∥ ((n : ℕ) × (A : Automaton) × (cells : ℕ → ℕ → Option Action) × (h ≡ holding G n A cells) × Outcome G (built n A cells)) ∥₁
BuiltFrom G (Err e) h = (h ≡ blank) × Outcome G (refused (told e))

-- Nothing else is built from the grammar: whatever building it comes to is just this result, with just this held.
pub record OnlyBuild (G : Grammar) (r : Result (Unit {0}) BuildRefusal) (h : Held) : Type 0 where
  pub same :
      (r' : Result (Unit {0}) BuildRefusal) (h' : Held)
      → BuiltFrom G r' h'
      → (r' ≡ r) × (h' ≡ h)
