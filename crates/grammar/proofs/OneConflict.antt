-- At most one conflict is the first.
use Rattle.std.proofs.Common.{◌≡◌, ℕ, ◌<◌, sym, refl, ap, ◌∙◌, inl, inr, arith}
use Rattle.std.proofs.lemmas.Bool.{cases_order}
use Rattle.grammar.specs.Grammar.{Grammar}
use Rattle.grammar.specs.States.{Automaton, Earlier}
use Rattle.grammar.specs.Cells.{rank, FirstConflict}
use Rattle.grammar.specs.declared.action.Action.{Action}
use Rattle.grammar.specs.declared.action.Action.TheVariants.{Shift, Accept, Reduce}
use Rattle.grammar.proofs.Places.{at_once, before, after, order}

-- An action behind another in the order is a reduction, by the rule of its rank.
reduction : (a : Action) → 0 < rank a → a ≡ Reduce (rank a)
reduction (Shift t) h = absurd (omega arith)
reduction Accept h = absurd (omega arith)
reduction (Reduce r) h = refl

rank_of : {a b : Action} → a ≡ b → rank a ≡ rank b
rank_of e = ap rank e

module _ (G : Grammar) (A : Automaton) where
  -- A cell before the first conflict has no two actions.
  not_before : {s w p v : ℕ} {a b c d : Action} → FirstConflict G A s w a b → FirstConflict G A p v c d → Earlier p v s w → ⊥
  not_before {p = p} {v = v} {c = c} {d = d} F E early = let e = rank_of (F.earlier p v c d early E.first E.second) in omega (arith, E.order)

  -- The second of two first conflicts in a cell does not rank above the other's.
  not_above : {s w : ℕ} {a b c d : Action} → FirstConflict G A s w a b → FirstConflict G A s w c d → rank d < rank b → ⊥
  not_above {a = a} {b = b} {c = c} {d = d} F E above =
      let x = rank_of (F.least c E.first (omega (arith, E.order))) in
      let y = rank_of (F.least d E.second above) in
      omega (arith, E.order)

  one_rank : {s w : ℕ} {a b c d : Action} → FirstConflict G A s w a b → FirstConflict G A s w c d → rank b ≡ rank d
  one_rank {b = b} {d = d} F E =
      elim (cases_order (rank b) (rank d)) [
        | inl e ↦ e
        | inr s ↦ elim s [ inl l ↦ absurd (not_above E F l) | inr l ↦ absurd (not_above F E l) ]
      ]

  -- The two actions of the first conflict.
  pub one_pair : {s w : ℕ} {a b c d : Action} → FirstConflict G A s w a b → FirstConflict G A s w c d → (a ≡ c) × (b ≡ d)
  one_pair {a = a} {b = b} {c = c} {d = d} F E =
      let r = one_rank F E in (
        E.least a F.first (omega (arith, F.order)),
        reduction b (omega (arith, F.order)) ∙ ap Reduce r ∙ sym (reduction d (omega (arith, E.order))),
      )

  -- The state and the word of the first conflict.
  pub one_place : {s w p v : ℕ} {a b c d : Action} → FirstConflict G A s w a b → FirstConflict G A p v c d → (s ≡ p) × (w ≡ v)
  one_place {s} {w} {p} {v} F E =
      elim (order s w p v) [
        | at_once e f ↦ (e, f)
        | before early ↦ absurd (not_before E F early)
        | after early ↦ absurd (not_before F E early)
      ]
