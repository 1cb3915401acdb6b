-- At most one outcome fits a grammar.
use Rattle.std.proofs.Common.{◌≡◌, ℕ, ◌≤◌, ap, subst, subst₂, inl, inr, arith, Option}
use Rattle.std.proofs.lemmas.Bool.{cases_order}
use Rattle.grammar.specs.Grammar.{Grammar, IsRule}
use Rattle.grammar.specs.States.{Automaton, Numbered, Crowded}
use Rattle.grammar.specs.Cells.{rank, FirstConflict, Exact}
use Rattle.grammar.specs.Outcome.{Within, InRange, LowestOutOfRange, LowestUseless, Sound, Built, refused, built, Outcome, off_limits, out_of_range, useless, crowded, conflicting, done, SameBuilt, same_refusal, same_tables}
use Rattle.grammar.specs.Refusals.{Told}
use Rattle.grammar.specs.Refusals as tells
use Rattle.grammar.specs.Theorems.{OneOutcome}
use Rattle.grammar.specs.declared.action.Action.{Action}
use Rattle.grammar.proofs.Agreement.{option_iff}
use Rattle.grammar.proofs.OneNumbering.{one_numbering, one_automaton}
use Rattle.grammar.proofs.NotCrowded.{not_crowded}
use Rattle.grammar.proofs.OneConflict.{one_pair, one_place}

equal_refusals : {e f : Told} → e ≡ f → SameBuilt (refused e) (refused f)
equal_refusals {e} p = subst (λ f. SameBuilt (refused e) (refused f)) p same_refusal

module _ (G : Grammar) where
  abbrev AllInRange : Type 0
  AllInRange = (r : ℕ) → IsRule G r → InRange G r

  -- The lowest rule out of range is one.
  one_rule : {q r : ℕ} → LowestOutOfRange G q → LowestOutOfRange G r → q ≡ r
  one_rule {q} {r} k l =
      elim (cases_order q r) [
        | inl e ↦ e
        | inr s ↦ elim s [ inl b ↦ absurd (k.out (l.lower q k.is_rule b)) | inr b ↦ absurd (l.out (k.lower r l.is_rule b)) ]
      ]

  one_nonterminal : {X Y : ℕ} → LowestUseless G X → LowestUseless G Y → X ≡ Y
  one_nonterminal {X} {Y} k l = omega (arith, k.lower Y l.useless, l.lower X k.useless)

  none_out : {r : ℕ} → LowestOutOfRange G r → AllInRange → ⊥
  none_out {r} l all = l.out (all r l.is_rule)

  -- Exact cells have no conflict.
  no_conflict : {A : Automaton} {cells : ℕ → ℕ → Option Action} {s w : ℕ} {a b : Action} → Exact G A cells → FirstConflict G A s w a b → ⊥
  no_conflict {cells = cells} {s = s} {w = w} {a = a} {b = b} exact F =
      let e : a ≡ b = cc ((exact s w a).1 F.first, (exact s w b).1 F.second) in
      let r : rank a ≡ rank b = ap rank e in
      omega (arith, F.order)

  one_table : {A : Automaton} {cells dells : ℕ → ℕ → Option Action} → Exact G A cells → Exact G A dells → (s w : ℕ) → cells s w ≡ dells s w
  one_table {cells = cells} {dells = dells} x y s w =
      option_iff (cells s w) (dells s w) (λ a h. (y s w a).1 ((x s w a).0 h)) (λ a h. (x s w a).1 ((y s w a).0 h))

  one_conflict :
      {n m s w p v : ℕ} {A B : Automaton} {a b c d : Action}
      → Numbered G n A
      → Numbered G m B
      → FirstConflict G A s w a b
      → FirstConflict G B p v c d
      → tells.conflict s w a b ≡ tells.conflict p v c d
  one_conflict {n = n} {m = m} {s = s} {w = w} {p = p} {v = v} {A = A} {B = B} {a = a} {b = b} {c = c} {d = d} N M F E =
      let F' : FirstConflict G B s w a b = subst (λ K. FirstConflict G K s w a b) (one_automaton G n m A B N M) F in
      let at = one_place G B F' E in
      let two = one_pair G B (subst₂ (λ q u. FirstConflict G B q u a b) at.0 at.1 F') E in
      λ i. tells.conflict (at.0 i) (at.1 i) (two.0 i) (two.1 i)

  one_build : {n m : ℕ} {A B : Automaton} {cells dells : ℕ → ℕ → Option Action} → Numbered G n A → Numbered G m B → Exact G A cells → Exact G B dells → SameBuilt (built n A cells) (built m B dells)
  one_build {n = n} {m = m} {A = A} {B = B} {cells = cells} {dells = dells} N M x y =
      let one = one_numbering G n m A B N M in
      let x' : Exact G B cells = subst (λ K. Exact G K cells) (one_automaton G n m A B N M) x in
      subst (λ k. SameBuilt (built n A cells) (built k B dells)) one.0 (same_tables one.1.has one.1.goto (one_table x' y))

  -- For each cause, that no other outcome fits.
  if_off_limits : {y : Built} → (Within G → ⊥) → Outcome G y → SameBuilt (refused tells.limits) y
  if_off_limits h (off_limits k) = same_refusal
  if_off_limits h (out_of_range w l) = absurd (h w)
  if_off_limits h (useless w i l) = absurd (h w)
  if_off_limits h (crowded w s c) = absurd (h w)
  if_off_limits h (conflicting w s few N F) = absurd (h w)
  if_off_limits h (done w s few N x) = absurd (h w)

  if_out_of_range :
      {y : Built} {r : ℕ}
      → Within G
      → LowestOutOfRange G r
      → Outcome G y
      → SameBuilt (refused (tells.range r)) y
  if_out_of_range w l (off_limits k) = absurd (k w)
  if_out_of_range w l (out_of_range v k) = equal_refusals (ap tells.range (one_rule l k))
  if_out_of_range w l (useless v i k) = absurd (none_out l i)
  if_out_of_range w l (crowded v s c) = absurd (none_out l s.in_range)
  if_out_of_range w l (conflicting v s few N F) = absurd (none_out l s.in_range)
  if_out_of_range w l (done v s few N x) = absurd (none_out l s.in_range)

  if_useless :
      {y : Built} {X : ℕ}
      → Within G
      → AllInRange
      → LowestUseless G X
      → Outcome G y
      → SameBuilt (refused (tells.useless X)) y
  if_useless w i u (off_limits k) = absurd (k w)
  if_useless w i u (out_of_range v l) = absurd (none_out l i)
  if_useless w i u (useless v j l) = equal_refusals (ap tells.useless (one_nonterminal u l))
  if_useless {X = X} w i u (crowded v s c) = absurd (s.useful X u.useless)
  if_useless {X = X} w i u (conflicting v s few N F) = absurd (s.useful X u.useless)
  if_useless {X = X} w i u (done v s few N x) = absurd (s.useful X u.useless)

  if_crowded :
      {y : Built}
      → Within G
      → Sound G
      → Crowded G
      → Outcome G y
      → SameBuilt (refused tells.states) y
  if_crowded w s c (off_limits k) = absurd (k w)
  if_crowded w s c (out_of_range v l) = absurd (none_out l s.in_range)
  if_crowded w s c (useless {X = X} v i l) = absurd (s.useful X l.useless)
  if_crowded w s c (crowded v t d) = same_refusal
  if_crowded w s c (conflicting {n = n} {A = A} v t few N F) = absurd (not_crowded G n A few N c)
  if_crowded w s c (done {n = n} {A = A} v t few N x) = absurd (not_crowded G n A few N c)

  if_conflicting :
      {y : Built} {n s w : ℕ} {A : Automaton} {a b : Action}
      → Within G
      → Sound G
      → n ≤ 96
      → Numbered G n A
      → FirstConflict G A s w a b
      → Outcome G y
      → SameBuilt (refused (tells.conflict s w a b)) y
  if_conflicting w s few N F (off_limits k) = absurd (k w)
  if_conflicting w s few N F (out_of_range v l) = absurd (none_out l s.in_range)
  if_conflicting w s few N F (useless {X = X} v i l) = absurd (s.useful X l.useless)
  if_conflicting {n = n} {A = A} w s few N F (crowded v t c) = absurd (not_crowded G n A few N c)
  if_conflicting w s few N F (conflicting v t less M E) = equal_refusals (one_conflict N M F E)
  if_conflicting {n = n} {s = p} {w = u} {A = A} {a = a} {b = b} w s few N F (done {n = m} {A = B} v t less M x) =
      absurd (no_conflict x (subst (λ K. FirstConflict G K p u a b) (one_automaton G n m A B N M) F))

  if_done : {y : Built} {n : ℕ} {A : Automaton} {cells : ℕ → ℕ → Option Action} → Within G → Sound G → n ≤ 96 → Numbered G n A → Exact G A cells → Outcome G y → SameBuilt (built n A cells) y
  if_done w s few N x (off_limits k) = absurd (k w)
  if_done w s few N x (out_of_range v l) = absurd (none_out l s.in_range)
  if_done w s few N x (useless {X = X} v i l) = absurd (s.useful X l.useless)
  if_done {n = n} {A = A} w s few N x (crowded v t c) = absurd (not_crowded G n A few N c)
  if_done {n = n} {A = A} w s few N x (conflicting {n = m} {s = p} {w = u} {A = B} {a = a} {b = b} v t less M F) =
      absurd (no_conflict x (subst (λ K. FirstConflict G K p u a b) (one_automaton G m n B A M N) F))
  if_done w s few N x (done v t less M y) = one_build N M x y

pub one_outcome : OneOutcome
one_outcome G x y o p = by o p
  where
    by : {x y : Built} → Outcome G x → Outcome G y → SameBuilt x y
    by (off_limits h) p = if_off_limits G h p
    by (out_of_range w l) p = if_out_of_range G w l p
    by (useless w i u) p = if_useless G w i u p
    by (crowded w s c) p = if_crowded G w s c p
    by (conflicting w s few N F) p = if_conflicting G w s few N F p
    by (done w s few N e) p = if_done G w s few N e p
