-- What an opening promises leaves one answer: a text is written in one way, and has one place where it cannot go on.
use Rattle.std.proofs.Common.{◌≡◌, ℕ, List, Some, None, Ok, Err, Option, refl, sym, ap, ◌∙◌, subst, arith}
use Rattle.grammar.specs.Outcome.{Within}
use Rattle.grammar.specs.Refusals.{Told}
use Rattle.written.specs.Tokens.{Placed}
use Rattle.written.specs.Statements.{Statement, Written, grammar_of}
use Rattle.written.specs.Form.{WellFormed}
use Rattle.written.specs.WrittenRefusals.{form_told}
use Rattle.written.specs.WrittenSheets.{Refused, misplaced, headless, off_limits, Says, headless_place, OneOpening, meant}
use Rattle.written.proofs.UniqueFault.{misplaced_unique}
use Rattle.written.proofs.UniqueStatements.{written_unique}

some_none : (o : Option ℕ) (p : ℕ) → o ≡ Some p → o ≡ None → ⊥
some_none o p e f = let z : ◌≡◌ {A = ℕ} 0 1 = cc in omega arith

some_some : (o : Option ℕ) (p q : ℕ) → o ≡ Some p → o ≡ Some q → p ≡ q
some_some o p q e f = cc

module _ (text : List ℕ) where
  well_formed : {ts : List Placed} {ss : List Statement} → Written text ts ss → WellFormed text
  well_formed {ts} {ss} w = record { placed = ts; statements = ss; written = w }

  -- Written twice, the first name that heads nothing is the same.
  same_headless : {ts us : List Placed} {ss rs : List Statement} → Written text ts ss → Written text us rs → headless_place ts ss ≡ headless_place us rs
  same_headless {ts} {us} {ss} {rs} v w = let one = written_unique text ts us ss rs v w in λ i. headless_place (one.0 i) (one.1 i)

  same_statements : {ts us : List Placed} {ss rs : List Statement} → Written text ts ss → Written text us rs → ss ≡ rs
  same_statements {ts} {us} {ss} {rs} v w = (written_unique text ts us ss rs v w).1

  -- A text that says its statements is not refused.
  not_refused : {ss : List Statement} {t : Told} → Says text ss → Refused text t → ⊥
  not_refused s (misplaced m) = m.ill_formed (well_formed s.written)
  not_refused s (headless {p = p} {ts = ts} {ss = rs} w h) = some_none (headless_place ts rs) p h (same_headless w s.written ∙ s.headed)
  not_refused s (off_limits w h out) = out (subst (λ rs. Within (grammar_of rs)) (same_statements s.written w) s.within)

  -- Two refusals tell the same.
  refused_alike : {t u : Told} → Refused text t → Refused text u → t ≡ u
  refused_alike (misplaced {p = p} m) (misplaced {p = q} k) = ap form_told (misplaced_unique text p q m k)
  refused_alike (misplaced m) (headless w h) = absurd (m.ill_formed (well_formed w))
  refused_alike (misplaced m) (off_limits w h out) = absurd (m.ill_formed (well_formed w))
  refused_alike (headless v g) (misplaced k) = absurd (k.ill_formed (well_formed v))
  refused_alike (headless {p = p} {ts = ts} {ss = ss} v g) (headless {p = q} w h) =
      ap form_told (some_some (headless_place ts ss) p q g (same_headless v w ∙ h))
  refused_alike (headless {p = p} {ts = ts} {ss = ss} v g) (off_limits w h out) = absurd (some_none (headless_place ts ss) p g (same_headless v w ∙ h))
  refused_alike (off_limits v g out) (misplaced k) = absurd (k.ill_formed (well_formed v))
  refused_alike (off_limits {ts = ts} {ss = ss} v g out) (headless {p = q} w h) = absurd (some_none (headless_place ts ss) q (same_headless v w ∙ h) g)
  refused_alike (off_limits v g out) (off_limits w h more) = refl

pub one_opening : OneOpening
one_opening text (Ok x) (Ok y) c d (ss, s, e) (rs, r, f) = (tt, e ∙ ap meant (same_statements text s.written r.written) ∙ sym f)
one_opening text (Ok x) (Err f) c d (ss, s, e) (r, g) = absurd (not_refused text s r)
one_opening text (Err e) (Ok y) c d (s, g) (rs, r, f) = absurd (not_refused text r s)
one_opening text (Err e) (Err f) c d (s, g) (r, h) = (refused_alike text s r, g ∙ sym h)
