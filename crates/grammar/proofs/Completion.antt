-- Sets of items moved and completed.
use Rattle.std.proofs.Common.{◌≡◌, ℕ, suc, true, eqb, sym, refl, ap, subst, Option, Some, None, slice_get}
use mathlib.Core.Path.{fun_ext}
use Rattle.std.proofs.lemmas.Bool.{and_parts, and_from, eqb-true, eq-eqb, false≢true}
use Rattle.grammar.specs.Grammar.{Grammar, IsRule, left_side, right_side}
use Rattle.grammar.specs.Items.{CodeAt, Items, Same, Closure, given, begun, Completes, origin, code_is, behind}
use Rattle.grammar.proofs.Agreement.{bool_iff}

pub code_is_lem : (o : Option ℕ) (X : ℕ) → code_is o X ≡ true → o ≡ Some X
code_is_lem None X h = absurd (false≢true h)
code_is_lem (Some Y) X h = ap {B = Option ℕ} Some (eqb-true Y X h)

pub is_code : (o : Option ℕ) (X : ℕ) → o ≡ Some X → code_is o X ≡ true
is_code o X e = subst (λ p. code_is p X ≡ true) (sym e) (eq-eqb X X refl)

-- Only rule 0 with the dot in front is there at first.
pub origin_is : (r d : ℕ) → origin r d ≡ true → (r ≡ 0) × (d ≡ 0)
origin_is r d h = let p = and_parts (eqb r 0) (eqb d 0) h in (eqb-true r 0 p.0, eqb-true d 0 p.1)

-- Sets with the same items are equal.
pub equal_sets : (S T : Items) → Same S T → S ≡ T
equal_sets S T h = fun_ext λ r. fun_ext λ d. h r d

pub same_items : {S T : Items} → S ≡ T → Same S T
same_items e r d = ap (λ S. S r d) e

module _ (G : Grammar) where
  -- What a move takes along, and what it leaves behind the dot.
  pub moved_from : (S : Items) (X r d : ℕ) → behind G S X r (suc d) ≡ true → (S r d ≡ true) × CodeAt G r d X
  moved_from S X r d h =
      let p = and_parts (S r d) (code_is (slice_get (right_side G r) d) X) h in (p.0, code_is_lem (slice_get (right_side G r) d) X p.1)

  pub moved_onto : (S : Items) (X r d : ℕ) → S r d ≡ true → CodeAt G r d X → behind G S X r (suc d) ≡ true
  moved_onto S X r d h k = and_from (S r d) (code_is (slice_get (right_side G r) d) X) h (is_code (slice_get (right_side G r) d) X k)

  -- Completing adds only items with the dot in front.
  pub was_given : {K : Items} {r d : ℕ} → Closure G K r (suc d) → K r (suc d) ≡ true
  was_given (given h) = h

  pub stays_closed : {K S : Items} {r d q : ℕ} → Completes G K S → S r d ≡ true → CodeAt G r d (left_side G q) → IsRule G q → S q 0 ≡ true
  stays_closed {r = r} {d = d} {q = q} c h k i = c.whole q 0 (begun (c.sound r d h) k i)

  -- A set is completed in one way.
  pub one_completion : {K S T : Items} → Completes G K S → Completes G K T → S ≡ T
  one_completion {S = S} {T = T} c e =
      equal_sets S T λ r d. bool_iff (S r d) (T r d) (λ h. e.whole r d (c.sound r d h)) (λ h. c.whole r d (e.sound r d h))
