-- A grammar in which every nonterminal is of use.
use Rattle.std.specs.Prelude.{ℕ}
use Rattle.grammar.specs.Grammar.{Grammar, IsNonterminal}
use Rattle.grammar.specs.Trees.{AllProductive}
use Rattle.grammar.specs.Useful.{Used}

-- Every nonterminal derives some list of words, and is reached from the start.
pub record AllUseful (G : Grammar) : Type 0 where
  pub productive : AllProductive G
  pub used : (X : ℕ) → IsNonterminal G X → Used G X
