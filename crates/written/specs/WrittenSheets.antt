-- What opening a written sheet comes to.
use Rattle.std.specs.Prelude.{◌≡◌, ℕ, List, [], map, length, Some, None, Ok, Err, Option, Result}
use Rattle.grammar.specs.Grammar.{Grammar, nothing}
use Rattle.grammar.specs.Outcome.{Within}
use Rattle.grammar.specs.Refusals.{Told}
use Rattle.written.specs.Tokens.{Placed}
use Rattle.written.specs.Statements.{Statement, Written, grammar_of, terminals_of, nonterminals_of}
use Rattle.written.specs.Form.{Misplaced, WellFormed}
use Rattle.written.specs.Walks.{first_headless}
use Rattle.written.specs.Drafts.{rule_list}
use Rattle.written.specs.Spelled.{spelled}
use Rattle.written.specs.WrittenRefusals.{form_told, limits_told, told}
use Rattle.written.specs.declared.written.WrittenSheet.{WrittenSheet}
use Rattle.written.specs.declared.written_refusal.WrittenRefusal.{WrittenRefusal}

-- The grammar that a sheet holds.
abbrev pub written_grammar : WrittenSheet → Grammar
written_grammar s = record { terminals = length (spelled s.names.words); nonterminals = length (spelled s.names.heads); rules = rule_list s.rules }

-- A grammar, with the spellings of its words and heads.
pub record Contents : Type 0 where
  pub grammar : Grammar
  pub words : List (List ℕ)
  pub heads : List (List ℕ)

abbrev pub contents : WrittenSheet → Contents
contents s = record { grammar = written_grammar s; words = spelled s.names.words; heads = spelled s.names.heads }

abbrev pub empty : Contents
empty = record { grammar = nothing; words = []; heads = [] }

-- What the statements mean.
abbrev pub meant : List Statement → Contents
meant ss = record { grammar = grammar_of ss; words = terminals_of ss; heads = nonterminals_of ss }

-- The place of the first name that heads nothing.
abbrev pub headless_place : List Placed → List Statement → Option ℕ
headless_place ts ss = first_headless (map (λ s. s.head) ss) ts

-- The text is well formed, and each of its names heads a statement.
pub record Headed (text : List ℕ) : Type 0 where
  pub form : WellFormed text
  pub headed : headless_place form.placed form.statements ≡ None

-- What a refusal tells of a text: 2 with the first place that cannot stand there,
-- 2 with the first name that heads nothing, or 3.
pub data Refused (text : List ℕ) : Told → Type 0 where
  misplaced : {p : ℕ} → Misplaced text p → Refused text (form_told p)
  headless : {p : ℕ} {ts : List Placed} {ss : List Statement}
      → Written text ts ss
      → headless_place ts ss ≡ Some p
      → Refused text (form_told p)
  off_limits : {ts : List Placed} {ss : List Statement}
      → Written text ts ss
      → headless_place ts ss ≡ None
      → (Within (grammar_of ss) → ⊥)
      → Refused text limits_told

-- The text says these statements, all names head something, and they are within the limits.
pub record Says (text : List ℕ) (ss : List Statement) : Type 0 where
  pub placed : List Placed
  pub written : Written text placed ss
  pub headed : headless_place placed ss ≡ None
  pub within : Within (grammar_of ss)

-- The text means this grammar, with these spellings of its words and heads.
abbrev pub Means : List ℕ → Contents → Type 0
Means text c = (ss : List Statement) × Says text ss × (c ≡ meant ss)

-- The sheet holds just what the text means, or the text is refused.
abbrev pub Reads : List ℕ → Result WrittenSheet WrittenRefusal → Type 0
Reads text (Ok s) = Means text (contents s)
Reads text (Err e) = Refused text (told e)

-- Done with just what the text means, or refused and empty.
abbrev pub Opened : List ℕ → Result (Unit {0}) WrittenRefusal → Contents → Type 0
Opened text (Ok x) c = Means text c
Opened text (Err e) c = Refused text (told e) × (c ≡ empty)

-- Two answers tell the same: done both, or refused both with the same number and place.
abbrev pub SameAnswer : Result (Unit {0}) WrittenRefusal → Result (Unit {0}) WrittenRefusal → Type 0
SameAnswer (Ok x) (Ok y) = Unit {0}
SameAnswer (Ok x) (Err f) = ⊥
SameAnswer (Err e) (Ok y) = ⊥
SameAnswer (Err e) (Err f) = told e ≡ told f

-- A text leaves one answer, one grammar and one list of spellings each of words and heads.
abbrev pub OneOpening : Type 0
OneOpening = (text : List ℕ) (x y : Result (Unit {0}) WrittenRefusal) (c d : Contents)
    → Opened text x c
    → Opened text y d
    → SameAnswer x y × (c ≡ d)
