-- What the stages found, as outcomes of building.
use Rattle.std.proofs.Common.{◌≡◌, ℕ, List, Some, None, Ok, Err, sym, ap, subst, inl, inr, Option, Result}
use mathlib.Core.Logic.{∥∥₁_map}
use Rattle.grammar.specs.Grammar.{Grammar}
use Rattle.grammar.specs.Useful.{Useless}
use Rattle.grammar.specs.Cells.{Exact}
use Rattle.grammar.specs.Outcome.{Outcome, Sound, LowestUseless, useless, crowded, conflicting, done, built, refused}
use Rattle.grammar.specs.Refusals as tells
use Rattle.grammar.specs.declared.action.Action.{Action}
use Rattle.tables.specs.declared.build_refusal.BuildRefusal.{BuildRefusal}
use Rattle.tables.specs.declared.rules.Rules.{Rules}
use Rattle.tables.specs.declared.states.States.{States}
use Rattle.tables.specs.AllUseful.{AllUseful}
use Rattle.tables.specs.Arrays.{grammar_of, automaton}
use Rattle.tables.specs.BuildRefusals.{told}
use Rattle.tables.specs.Cells.{cell_at, Conflicting}
use Rattle.tables.specs.declared.full.Full.{Full}
use Rattle.tables.specs.Building.{BuiltFrom, Tabled, held_by}
use Rattle.tables.specs.Held.{Exactly, holding}
use Rattle.tables.specs.Numbering.{UsefulNumbering, TooManyStates}
use Rattle.tables.proofs.RuleArrays.{within_rules, in_range_rules}

pub not_useless : (G : Grammar) → AllUseful G → (X : ℕ) → Useless G X → ⊥
not_useless G u X v = elim v.fault [ inl f ↦ f (u.productive X v.nonterminal) | inr f ↦ f (u.used X v.nonterminal) ]

pub sound_rules : (R : Rules) → AllUseful (grammar_of R) → Sound (grammar_of R)
sound_rules R u = record { in_range = in_range_rules R; useful = not_useless (grammar_of R) u }

pub useless_told :
    (R : Rules) (X : ℕ)
    → LowestUseless (grammar_of R) X
    → Outcome (grammar_of R) (refused (tells.useless X))
useless_told R X l = useless (within_rules R) (in_range_rules R) l

pub crowded_told :
    (R : Rules) (e : BuildRefusal)
    → AllUseful (grammar_of R)
    → TooManyStates R e
    → Outcome (grammar_of R) (refused (told e))
crowded_told R e u c =
    subst (λ t. Outcome (grammar_of R) (refused t)) (sym c.0)
    (crowded (within_rules R) (sound_rules R u) c.1)

module _ (R : Rules) (S : States) (n : UsefulNumbering R S) where
  pub conflict_told :
      (e : BuildRefusal) → Conflicting R S e → Outcome (grammar_of R) (refused (told e))
  conflict_told e (s, w, a, b, is, first) =
      subst (λ t. Outcome (grammar_of R) (refused t)) (sym is)
      (conflicting (within_rules R) (sound_rules R n.useful) S.few n.numbered first)

  pub exact_tables : (cells : List (List (Option Action))) → Exact (grammar_of R) (automaton R S) (cell_at cells) → Exactly R S cells
  exact_tables cells e = record { outcome = done (within_rules R) (sound_rules R n.useful) S.few n.numbered e; useful = n.useful }

-- Tables that hold a grammar are what building it comes to.
pub built_tables : (G : Grammar) (f : Full) → grammar_of f.machine.rules ≡ G → BuiltFrom G (Ok tt) (held_by (Some f))
built_tables G f e =
    ∥∥₁_map f.exact (λ x. (f.machine.states.count, automaton f.machine.rules f.machine.states, cell_at f.cells, ap (λ G. holding G f.machine.states.count (automaton f.machine.rules f.machine.states) (cell_at f.cells)) e, subst (λ G. Outcome G (built f.machine.states.count (automaton f.machine.rules f.machine.states) (cell_at f.cells))) e x.outcome))

-- What is tabled, or refused, is built.
pub tabled_built :
    (G : Grammar) (r : Result (Unit {0}) BuildRefusal) (o : Option Full)
    → Tabled G r o
    → BuiltFrom G r (held_by o)
tabled_built G (Ok x) None t = absurd t
tabled_built G (Ok x) (Some f) t = built_tables G f t
tabled_built G (Err e) o t = (ap held_by t.0, t.1)
