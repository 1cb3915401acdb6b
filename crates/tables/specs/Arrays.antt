-- The grammar that rules in arrays stand for, and the automaton of states in arrays.
use Rattle.std.specs.Prelude.{ℕ, zero, suc, ◌*◌, List, [], ◌∷◌, take, drop, slice_index}
use Rattle.grammar.specs.Grammar.{Grammar, Rule}
use Rattle.grammar.specs.States.{Automaton}
use Rattle.grammar.specs.StateLists.{automaton_of}
use Rattle.tables.specs.declared.rules.Rules.{Rules}
use Rattle.tables.specs.declared.states.States.{States}

-- The codes on the right of a rule: as many as it is long.
abbrev pub codes_at : Rules → ℕ → List ℕ
codes_at R r = take (slice_index R.size r) (drop (9 * r) R.right)

-- A rule: its left side, and its codes.
unfoldable pub rule_at : Rules → ℕ → Rule
rule_at R r = record { left = slice_index R.left r; right = codes_at R r }

-- k rules, from the rule r on.
unfoldable pub rules_from : Rules → ℕ → ℕ → List Rule
rules_from R r zero = []
rules_from R r (suc k) = rule_at R r ∷ rules_from R (suc r) k

unfoldable pub grammar_of : Rules → Grammar
grammar_of R = record { terminals = R.terminals; nonterminals = R.nonterminals; rules = rules_from R 1 R.count }

abbrev pub automaton : Rules → States → Automaton
automaton R S = automaton_of (grammar_of R) S.count S.sets S.gotos
