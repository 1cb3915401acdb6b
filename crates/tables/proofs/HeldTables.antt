-- What tables that hold a grammar are sure of.
use Rattle.std.proofs.Common.{◌≡◌, ℕ, true, leb, length, Some, None, subst, Option}
use mathlib.Core.Bool.{Bool-set}
use mathlib.Core.Logic.{∥∥₁_map, ∥∥₁_elim}
use Rattle.std.proofs.lemmas.Bool.{and_from, le-leb}
use Rattle.grammar.specs.Grammar.{Grammar, IsRule}
use Rattle.grammar.specs.Derivation.{is_rule}
use Rattle.grammar.specs.Trees.{AllProductive}
use Rattle.grammar.specs.States.{Automaton, Numbered}
use Rattle.grammar.specs.Cells.{Exact, Holds, may_reduce}
use Rattle.grammar.specs.Outcome.{Outcome, built, done}
use Rattle.grammar.specs.Theorems.{Given}
use Rattle.grammar.specs.declared.action.Action.{Action}
use Rattle.grammar.specs.declared.action.Action.TheVariants.{Reduce}
use Rattle.tables.specs.declared.full.Full.{Full}
use Rattle.tables.specs.declared.tables.Tables.{Tables}
use Rattle.tables.specs.Building.{held, held_by}
use Rattle.tables.specs.Held.{Held, blank, holding}
use Rattle.tables.proofs.RuleArrays.{valid_rules}

-- The states are numbered, every nonterminal derives words, and the cells are exact.
abbrev Facts : Grammar → ℕ → Automaton → (ℕ → ℕ → Option Action) → Type 0
Facts G n A cells = Given G n A × AllProductive G × Exact G A cells

abbrev FactsOf : Held → Type 0
FactsOf blank = Unit {0}
FactsOf (holding G n A cells) = ∥ Facts G n A cells ∥₁

numbered_done : {G : Grammar} {n : ℕ} {A : Automaton} {cells : ℕ → ℕ → Option Action} → Outcome G (built n A cells) → Numbered G n A × Exact G A cells
numbered_done (done w s few N x) = (N, x)

facts : (o : Option Full) → FactsOf (held_by o)
facts None = tt
facts (Some f) =
    ∥∥₁_map f.exact λ x.
    let p = numbered_done x.outcome in
    (record { valid = valid_rules f.machine.rules; numbered = p.0 }, x.useful.productive, p.1)

pub held_exact : (t : Tables) (G : Grammar) (n : ℕ) (A : Automaton) (cells : ℕ → ℕ → Option Action) → held t ≡ holding G n A cells → ∥ (Given G n A × AllProductive G × Exact G A cells) ∥₁
held_exact t G n A cells e = subst FactsOf e (facts t.full)

-- A rule.
is_rule_lem : (G : Grammar) (r : ℕ) → IsRule G r → is_rule G r ≡ true
is_rule_lem G r i = and_from (leb 1 r) (leb r (length G.rules)) (le-leb 1 r i.low) (le-leb r (length G.rules) i.high)

reduced_rule : (G : Grammar) (A : Automaton) (s w r : ℕ) → Holds G A s w (Reduce r) → is_rule G r ≡ true
reduced_rule G A s w r (may_reduce i l) = is_rule_lem G r i

pub held_rule : (t : Tables) (G : Grammar) (n : ℕ) (A : Automaton) (cells : ℕ → ℕ → Option Action) → held t ≡ holding G n A cells → (s w r : ℕ) → cells s w ≡ Some (Reduce r) → is_rule G r ≡ true
held_rule t G n A cells e s w r h =
    ∥∥₁_elim (held_exact t G n A cells e) (Bool-set (is_rule G r) true) λ x.
    reduced_rule G A s w r ((x.2 s w (Reduce r)).0 h)
