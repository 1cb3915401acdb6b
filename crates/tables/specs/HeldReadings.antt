-- What can be read of what tables hold; nothing of blank ones.
use Rattle.std.specs.Prelude.{ℕ, Bool, true, false, cond, length, Option, Some, None}
use Rattle.grammar.specs.Grammar.{Grammar, left_side, right_side}
use Rattle.grammar.specs.Derivation.{is_rule}
use Rattle.grammar.specs.declared.action.Action.{Action}
use Rattle.tables.specs.Held.{Held, blank, holding}

abbrev pub is_blank : Held → Bool
is_blank blank = true
is_blank (holding G n A cells) = false

abbrev pub state_count : Held → ℕ
state_count blank = 0
state_count (holding G n A cells) = n

abbrev pub terminal_count : Held → ℕ
terminal_count blank = 0
terminal_count (holding G n A cells) = G.terminals

abbrev pub nonterminal_count : Held → ℕ
nonterminal_count blank = 0
nonterminal_count (holding G n A cells) = G.nonterminals

abbrev pub rule_count : Held → ℕ
rule_count blank = 0
rule_count (holding G n A cells) = length G.rules

-- A value that exactly the rules of a grammar have.
abbrev pub if_rule : Grammar → ℕ → ℕ → Option ℕ
if_rule G r x = cond (is_rule G r) (Some x) None

-- The left side of a rule of a grammar, and how long its right side is.
abbrev pub left_at : Grammar → ℕ → Option ℕ
left_at G r = if_rule G r (left_side G r)

abbrev pub length_at : Grammar → ℕ → Option ℕ
length_at G r = if_rule G r (length (right_side G r))

abbrev pub left_of : Held → ℕ → Option ℕ
left_of blank r = None
left_of (holding G n A cells) r = left_at G r

abbrev pub length_of : Held → ℕ → Option ℕ
length_of blank r = None
length_of (holding G n A cells) r = length_at G r

-- Whether a state has an item, by rule and dot.
abbrev pub has_of : Held → ℕ → ℕ → ℕ → Bool
has_of blank s r d = false
has_of (holding G n A cells) s r d = A.has s r d

abbrev pub cell_of : Held → ℕ → ℕ → Option Action
cell_of blank s w = None
cell_of (holding G n A cells) s w = cells s w

abbrev pub goto_of : Held → ℕ → ℕ → Option ℕ
goto_of blank s X = None
goto_of (holding G n A cells) s X = A.goto s X
