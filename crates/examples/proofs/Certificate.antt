-- A certificate: tables, and all the lists by which a test sees that they are the tables of a grammar.
use Rattle.std.proofs.Common.{ℕ, List, length, Option, Some, None}
use Rattle.grammar.specs.Outcome.{Built, built}
use Rattle.grammar.specs.Refusals.{conflict}
use Rattle.grammar.specs.declared.action.Action.{Action}
use Rattle.examples.specs.Tables.{Tables, automaton, cells}
use Rattle.examples.proofs.GatherTest.{Entry}

-- The first conflict.
pub record Conflict : Type 0 where
  pub state : ℕ
  pub word : ℕ
  pub first : Action
  pub second : Action

-- Nullable, productive and used nonterminals, and words by transition; each list in an order in which every element has its reasons before it. Where there is a conflict, the tables list every action.
pub record Certificate : Type 0 where
  pub tables : Tables
  pub nullable : List ℕ
  pub productive : List ℕ
  pub used : List ℕ
  pub directs : List Entry
  pub reads : List Entry
  pub follows : List Entry
  pub conflict : Option Conflict

abbrev pub outcome_by : Tables → Option Conflict → Built
outcome_by t None = built (length t.states) (automaton t) (cells t)
outcome_by t (Some k) = Built.refused (conflict k.state k.word k.first k.second)

-- What the certificate says of its grammar.
abbrev pub outcome_of : Certificate → Built
outcome_of c = outcome_by c.tables c.conflict
