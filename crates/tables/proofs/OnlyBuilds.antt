-- One result is built from a grammar, with one thing held.
use Rattle.std.proofs.Common.{◌≡◌, Ok, Err, refl, sym, ◌∙◌, ap, Result}
use Rattle.std.proofs.Props.{props}
use mathlib.Core.Logic.{∥∥₁_elim}
use mathlib.Core.HLevel.{⊥_prop}
use mathlib.Core.Path.{fun_ext}
use Rattle.grammar.specs.Grammar.{Grammar, Rule}
use Rattle.grammar.specs.States.{Automaton}
use Rattle.grammar.specs.Outcome.{Built, Outcome, refused, built, SameBuilt, same_refusal, same_tables}
use Rattle.grammar.specs.declared.action.Action.{Action}
use Rattle.grammar.proofs.OneOutcome.{one_outcome}
use Rattle.tables.specs.declared.build_refusal.BuildRefusal.{BuildRefusal}
use Rattle.tables.specs.BuildRefusals.{told}
use Rattle.tables.specs.Building.{BuiltFrom, OnlyBuild}
use Rattle.tables.specs.Held.{Held, holding}
use Rattle.tables.proofs.BuildRefusals.{told_once}

Rule-set : IsSet Rule
Rule-set = hlevel props

Grammar-set : IsSet Grammar
Grammar-set = hlevel (props, Rule-set)

Automaton-set : IsSet Automaton
Automaton-set = hlevel props

Action-set : IsSet Action
Action-set = hlevel props

Held-set : IsSet Held
Held-set = hlevel (props, Grammar-set, Automaton-set, Action-set)

module _ (G : Grammar) where
  -- What two outcomes that are the same have in common.
  abbrev Shared : Built → Built → Type 0
  Shared (refused e) (refused f) = e ≡ f
  Shared (refused e) (built n A cells) = ⊥
  Shared (built n A cells) (refused e) = ⊥
  Shared (built n A cells) (built m B dells) = holding G n A cells ≡ holding G m B dells

  shared : {x y : Built} → SameBuilt x y → Shared x y
  shared same_refusal = refl
  shared (same_tables {n = n} {A = A} {B = B} {cells = cells} {dells = dells} has goto same) =
      let items : A.has ≡ B.has = fun_ext λ s. fun_ext λ r. fun_ext λ d. has s r d in
      let leads : A.goto ≡ B.goto = fun_ext λ s. fun_ext λ X. goto s X in
      let filled : cells ≡ dells = fun_ext λ s. fun_ext λ w. same s w in
      λ i. holding G n (record { has = items i; goto = leads i }) (filled i)

  one : (x y : Built) → Outcome G x → Outcome G y → Shared x y
  one x y o p = shared (one_outcome G x y o p)

  same_build :
      (r : Result (Unit {0}) BuildRefusal) (h : Held)
      → BuiltFrom G r h
      → (s : Result (Unit {0}) BuildRefusal) (k : Held)
      → BuiltFrom G s k
      → (s ≡ r) × (k ≡ h)
  same_build (Ok x) h b (Ok y) k c =
      (refl, ∥∥₁_elim c (Held-set k h) λ q. ∥∥₁_elim b (Held-set k h) λ p. q.3 ∙ one (built q.0 q.1 q.2) (built p.0 p.1 p.2) q.4 p.4 ∙ sym p.3)
  same_build (Ok x) h b (Err e) k c =
      absurd (∥∥₁_elim b ⊥_prop λ p. one (refused (told e)) (built p.0 p.1 p.2) c.1 p.4)
  same_build (Err e) h b (Ok y) k c =
      absurd (∥∥₁_elim c ⊥_prop λ q. one (built q.0 q.1 q.2) (refused (told e)) q.4 b.1)
  same_build (Err e) h b (Err f) k c = (
    ap Err (told_once f e (one (refused (told f)) (refused (told e)) c.1 b.1)),
    c.0 ∙ sym b.0,
  )

  pub only_build :
      (r : Result (Unit {0}) BuildRefusal) (h : Held) → BuiltFrom G r h → OnlyBuild G r h
  only_build r h b = record { same = same_build r h b }
