-- The numbered states keep the laws of an automaton.
use Rattle.std.proofs.Common.{◌≡◌, ℕ, zero, suc, ◌<◌, Bool, true, sym, refl, subst, arith, Some}
use Rattle.std.proofs.lemmas.Bool.{false≢true}
use Rattle.grammar.specs.Grammar.{Grammar}
use Rattle.grammar.specs.Items.{Items, CodeAt, Closure, given, begun, Completes, origin, behind}
use Rattle.grammar.specs.States.{Automaton, Numbered, Made, moved, at_origin, closure}
use Rattle.grammar.specs.Theorems.{LawfulStates}
use Rattle.grammar.proofs.Completion.{origin_is, moved_from, moved_onto, was_given, stays_closed}
use Rattle.grammar.proofs.Moves.{goes, is_state, kernel}

module _ (G : Grammar) (has : ℕ → ℕ → ℕ → Bool) where
  -- Each item of a completed set came in by a way of the states, if the items it began with did.
  made_by : (s : ℕ) (K : Items) → ((r d : ℕ) → K r d ≡ true → Made G has s r d) → {r d : ℕ} → Closure G K r d → Made G has s r d
  made_by s K start {r} {d} (given h) = start r d h
  made_by s K start (begun c k i) = closure (made_by s K start c) k i

  made_first : (r d : ℕ) → origin r d ≡ true → Made G has 0 r d
  made_first r d h =
      let p = origin_is r d h in subst (λ q. Made G has 0 q d) (sym p.0) (subst (λ e. Made G has 0 0 e) (sym p.1) at_origin)

  made_moved : (s : ℕ) (S : Items) (X : ℕ) → Completes G (behind G S X) (has s) → (r d : ℕ) → behind G S X r d ≡ true → Made G has s r d
  made_moved s S X c r zero h = absurd (false≢true h)
  made_moved s S X c r (suc d) h = moved (c.whole r (suc d) (given h))

module _ (G : Grammar) (n : ℕ) (A : Automaton) (N : Numbered G n A) where
  law_moves : (s r d X : ℕ) → A.has s r d ≡ true → CodeAt G r d X → (t : ℕ) × (A.goto s X ≡ Some t) × (A.has t r (suc d) ≡ true)
  law_moves s r d X h k =
      let m = N.moves s X (is_state G n A N s r d h) (record { rule = r; dot = d; has = h; code = k }) in
      (m.0, m.1, m.3.whole r (suc d) (given (moved_onto G (A.has s) X r d h k)))

  law_came : (s t X r d : ℕ) → A.goto s X ≡ Some t → A.has t r (suc d) ≡ true → CodeAt G r d X × (A.has s r d ≡ true)
  law_came s t X r d e h =
      let p = moved_from G (A.has s) X r d (was_given G ((goes G n A N s X t e).move.sound r (suc d) h)) in (p.1, p.0)

  law_target : (s t X : ℕ) → A.goto s X ≡ Some t → (r d : ℕ) × (A.has t r (suc d) ≡ true)
  law_target s t X e =
      let g = goes G n A N s X t e in
      let w = g.waits in
      (w.rule, w.dot, g.move.whole w.rule (suc w.dot) (given (moved_onto G (A.has s) X w.rule w.dot w.has w.code)))

  law_made : (s r d : ℕ) → s < n → A.has s r d ≡ true → Made G A.has s r d
  law_made zero r d l h = made_by G A.has 0 origin (made_first G A.has) (N.begins.sound r d h)
  law_made (suc k) r d l h =
      let m = N.met (suc k) (omega arith) l in
      let c = (goes G n A N m.state m.code (suc k) m.here).move in
      made_by G A.has (suc k) (behind G (A.has m.state) m.code) (made_moved G A.has (suc k) (A.has m.state) m.code c) (c.sound r d h)

  law_fresh : (r d : ℕ) → A.has 0 r (suc d) ≡ true → ⊥
  law_fresh r d h = let p = origin_is r (suc d) (was_given G (N.begins.sound r (suc d) h)) in omega (arith, p.1)

pub lawful_states : LawfulStates
lawful_states G n A N =
    record {
      first = N.begins.whole 0 0 (given refl);
      closed = λ {s} {r} {d} {q} h k i. stays_closed G (kernel G n A N s (is_state G n A N s r d h)).completes h k i;
      moves = λ {s} {r} {d} {X} h k. law_moves G n A N s r d X h k;
      came = λ {s} {t} {X} {r} {d} e h. law_came G n A N s t X r d e h;
      target = λ {s} {t} {X} e. law_target G n A N s t X e;
      made = λ {s} {r} {d} h. law_made G n A N s r d (is_state G n A N s r d h) h;
      fresh = λ {r} {d} h. law_fresh G n A N r d h;
    }
