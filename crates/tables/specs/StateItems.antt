-- The items of a state, whether or not its cells conflict.
use Rattle.std.specs.Prelude.{ℕ, ◌<◌, ◌≤◌, Bool, MatchOption, Option}
use Rattle.grammar.specs.Grammar.{Grammar}
use Rattle.grammar.specs.Items.{Same}
use Rattle.grammar.specs.ItemLists.{items_of}
use Rattle.grammar.specs.States.{Automaton, Numbered}
use Rattle.grammar.specs.Outcome.{Within, Sound}
use Rattle.tables.specs.declared.items.Items.{Items}

-- The numbered states of a grammar that is refused for nothing before its cells are filled.
pub record Numbering (G : Grammar) (n : ℕ) (A : Automaton) : Type 0 where
  pub within : Within G
  pub sound : Sound G
  pub few : n ≤ 96
  pub numbered : Numbered G n A

-- Whether the item of a rule and a dot is among the items.
abbrev pub has_item : Items → ℕ → ℕ → Bool
has_item x r d = items_of x.set r d

-- No numbering has such a state.
pub record NoState (G : Grammar) (s : ℕ) : Type 0 where
  pub past : (n : ℕ) (A : Automaton) → Numbering G n A → n ≤ s

-- There is such a state, and it has just these items.
pub record OfState (G : Grammar) (s : ℕ) (x : Items) : Type 0 where
  pub states : ℕ
  pub automaton : Automaton
  pub numbering : Numbering G states automaton
  pub low : s < states
  pub same : Same (has_item x) (automaton.has s)

-- The items of the state, or none exactly where no numbering has it.
abbrev pub StateItems : Grammar → ℕ → Option Items → Type 0
StateItems G s o = MatchOption o (NoState G s) (OfState G s)
