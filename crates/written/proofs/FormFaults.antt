-- Where the form of a text is wrong: a byte that cannot stand there, or else a name that heads nothing.
use Rattle.std.proofs.Common.{◌≡◌, ℕ, Option, None, Some, MatchOption, List, sym, ◌∙◌, subst}
use Rattle.written.specs.Form.{Misplaced, WellFormed}
use Rattle.written.specs.Tokens.{Laid, Placed, tokens}
use Rattle.written.specs.Walks.{first_headless, heads_in}
use Rattle.written.specs.WrittenRefusals.{form_told}
use Rattle.written.specs.WrittenSheets.{Headed, Refused, misplaced, headless}
use Rattle.written.proofs.FilledSheets.{headless_found}

module _ (text : List ℕ) where
  abbrev Fault : Option ℕ → Type 0
  Fault r = MatchOption r (Headed text) (λ place. Refused text (form_told place))

  abbrev Walked : Option ℕ → Type 0
  Walked r = (ts : List Placed) → Laid 0 ts text → r ≡ first_headless (heads_in (tokens ts)) ts

  of_names : (w : WellFormed text) (r : Option ℕ) → Walked r → Fault r
  of_names w None is = record { form = w; headed = sym (headless_found w.placed w.statements w.written) ∙ sym (is w.placed w.written.laid) }
  of_names w (Some p) is = headless w.written (sym (headless_found w.placed w.statements w.written) ∙ sym (is w.placed w.written.laid))

  -- As `or_else` joins them.
  pub either_fault : {B : Type 0} (first r : Option ℕ) → MatchOption first (WellFormed text) (λ p. Misplaced text p) → MatchOption first B (λ x. r ≡ Some x) → (B → Walked r) → Fault r
  either_fault None r w b walked = of_names w r (walked b)
  either_fault (Some p) r m is walked = subst Fault (sym is) (misplaced m)
