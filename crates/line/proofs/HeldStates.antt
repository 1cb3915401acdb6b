-- The states that tables lead to, and the rules that they reduce by.
use Rattle.std.proofs.Common.{◌≡◌, ℕ, ◌<◌, true, Some, None, sym, refl, arith, Option}
use Rattle.std.proofs.lemmas.Option.{none-some}
use Rattle.grammar.specs.Derivation.{is_rule}
use Rattle.grammar.specs.declared.action.Action.TheVariants.{Reduce}
use Rattle.tables.specs.declared.full.Full.{Full}
use Rattle.tables.specs.declared.tables.Tables.{Tables}
use Rattle.tables.specs.Building.{held, held_by}
use Rattle.tables.specs.Held.{Held, blank, holding}
use Rattle.tables.specs.HeldReadings.{cell_of, goto_of}
use Rattle.tables.proofs.Gotos.{goto_target}
use Rattle.tables.proofs.HeldTables.{held_rule}

goto_of_lem : (o : Option Full) (s X t : ℕ) → Some t ≡ goto_of (held_by o) s X → t < 96
goto_of_lem None s X t e = absurd (none-some t (sym e))
goto_of_lem (Some f) s X t e = omega (arith, goto_target f.machine.rules f.machine.states s X t e, f.machine.states.few)

-- There are at most 96 states.
pub goto_below : (t : Tables) (s X q : ℕ) → Some q ≡ goto_of (held t) s X → q < 96
goto_below t s X q e = goto_of_lem t.full s X q e

-- What tables hold has the rule.
abbrev pub RuleIn : Held → ℕ → Type 0
RuleIn blank r = Unit {0}
RuleIn (holding G n A cells) r = is_rule G r ≡ true

-- Reductions are by rules.
pub rule_in : (t : Tables) (s w r : ℕ) → Some (Reduce r) ≡ cell_of (held t) s w → RuleIn (held t) r
rule_in t s w r e = at (held t) refl e
  where
    at : (h : Held) → held t ≡ h → Some (Reduce r) ≡ cell_of h s w → RuleIn h r
    at blank i e = tt
    at (holding G n A cells) i e = held_rule t G n A cells i s w r (sym e)
