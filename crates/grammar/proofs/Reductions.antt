-- A reduction of a cell has its item in the state, with the dot behind the whole right side.
use Rattle.std.proofs.Common.{ℕ, [], length, sym, append-nil}
use Rattle.grammar.specs.Grammar.{Grammar, IsRule, right_side}
use Rattle.grammar.specs.States.{Automaton, Laws}
use Rattle.grammar.specs.Lookahead.{Star, stop, go, Transition, Reads, Includes, Follow, Lookahead}
use Rattle.grammar.specs.Cells.{Holds, may_reduce}
use Rattle.grammar.specs.declared.action.Action.TheVariants.{Reduce}
use Rattle.grammar.proofs.Dots.{Has, begins, along_codes}

module _ {G : Grammar} {A : Automaton} where
  first_read : {x y : ℕ × ℕ} → Star (Reads G A) x y → Transition G A y → Transition G A x
  first_read stop t = t
  first_read (go s r) t = s.from

  first_included : {x y : ℕ × ℕ} → Star (Includes G A) x y → Transition G A y → Transition G A x
  first_included stop t = t
  first_included (go s r) t = s.from

  -- What has follow words is a transition.
  pub follow_transition : {x : ℕ × ℕ} {w : ℕ} → Follow G A x w → Transition G A x
  follow_transition f = first_included f.steps (first_read f.read.steps f.read.is_transition)

  pub lookahead_item : Laws G A → {s r w : ℕ} → IsRule G r → Lookahead G A s r w → Has A s r (length (right_side G r))
  lookahead_item L {r = r} i l = along_codes L l.leads [] [] (sym (append-nil (right_side G r))) (begins L i (follow_transition l.follow).move)

  pub reduction : Laws G A → {s w r : ℕ} → Holds G A s w (Reduce r) → IsRule G r × Has A s r (length (right_side G r))
  reduction L (may_reduce i l) = (i, lookahead_item L i l)
