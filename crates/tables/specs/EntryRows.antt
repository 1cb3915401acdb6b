-- How far the entries of a state are made.
use Rattle.std.specs.Prelude.{◌≡◌, ℕ, ◌<◌, Bool, List}
use Rattle.grammar.specs.StateLists.{state_at, Sofar}
use Rattle.tables.specs.declared.rules.Rules.{Rules}
use Rattle.tables.specs.declared.states.States.{States}
use Rattle.tables.specs.Arrays.{grammar_of}

-- The entries of the state s, which has these items, at the codes below X.
pub record InRow (R : Rules) (s : ℕ) (items : List Bool) (S : States) (X : ℕ) : Type 0 where
  pub state : s < S.count
  pub is : state_at S.sets s ≡ items
  pub sofar : Sofar (grammar_of R) S.count S.sets S.gotos s X
