-- The numbered states are the reached sets, each once.
use Rattle.std.proofs.Common.{◌≡◌, ℕ, zero, suc, ◌<◌, sym, ◌∙◌, subst, arith}
use Rattle.grammar.specs.Grammar.{Grammar}
use Rattle.grammar.specs.Items.{Items, Move, Waits}
use Rattle.grammar.specs.States.{Automaton, Reached, first, onward, Numbered}
use Rattle.grammar.specs.Theorems.{Listed, NumberedStates}
use Rattle.grammar.proofs.Completion.{equal_sets, same_items, one_completion}
use Rattle.grammar.proofs.Moves.{goes}

module _ (G : Grammar) (n : ℕ) (A : Automaton) (N : Numbered G n A) where
  -- Every state is reached, since each but the first is met at a lower one.
  reached_below : (k s : ℕ) → s < k → s < n → Reached G (A.has s)
  reached_below zero s l b = absurd (omega arith)
  reached_below (suc k) zero l b = first N.begins
  reached_below (suc k) (suc s) l b =
      let m = N.met (suc s) (omega arith) b in
      let g = goes G n A N m.state m.code (suc s) m.here in
      onward (reached_below k m.state (omega (arith, m.lower)) g.from) g.waits g.move

  pub state_reached : (s : ℕ) → s < n → Reached G (A.has s)
  state_reached s l = reached_below (suc s) s (omega arith) l

  listed_as : (S : Items) (s : ℕ) → s < n → A.has s ≡ S → Listed G n A S
  listed_as S s l e = record { number = s; low = l; same = same_items e; once = λ t b h. N.apart t s b l (λ r d. h r d ∙ sym (same_items e r d)) }

  -- Every reached set is a state, since each move from a state leads to a state.
  pub reached_listed : {S : Items} → Reached G S → Listed G n A S
  reached_listed {S} (first c) = listed_as S 0 N.some_state (one_completion G N.begins c)
  reached_listed {S = T} (onward {S = S} {X = X} r w m) =
      let at = reached_listed r in
      let e : S ≡ A.has at.number = sym (equal_sets (A.has at.number) S at.same) in
      let t = N.moves at.number X at.low (subst (λ s. Waits G s X) e w) in
      listed_as T t.0 t.2 (one_completion G t.3 (subst (λ s. Move G s X T) e m))

pub numbered_states : NumberedStates
numbered_states G n A N S = (
  λ r. reached_listed G n A N r,
  λ at. subst (λ T. Reached G T) (equal_sets (A.has at.number) S at.same) (state_reached G n A N at.number at.low),
)
