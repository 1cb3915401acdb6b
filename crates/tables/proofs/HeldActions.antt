-- The actions of a cell.
use Rattle.std.proofs.Common.{◌≡◌, ℕ, ◌<◌, ◌≤◌, refl, ap, arith}
use Rattle.grammar.specs.Grammar.{Grammar, right_side}
use Rattle.grammar.specs.States.{Automaton}
use Rattle.grammar.specs.Cells.{rank, Holds, may_shift, may_accept, may_reduce}
use Rattle.grammar.specs.declared.action.Action.{Action}
use Rattle.grammar.specs.declared.action.Action.TheVariants.{Shift, Accept, Reduce}
use Rattle.grammar.proofs.Reductions.{follow_transition}
use Rattle.tables.specs.declared.rules.Rules.{Rules}
use Rattle.tables.specs.declared.states.States.{States}
use Rattle.tables.specs.Arrays.{grammar_of, automaton}
use Rattle.tables.proofs.RuleArrays.{rule_high}
use Rattle.tables.proofs.Gotos.{goto_moves, has_item, one_goto}
use Rattle.tables.proofs.DirectWords.{direct_below, terminal_high}
use Rattle.tables.proofs.RuleWalks.{walk_inside}
use Rattle.tables.proofs.Transitions.{within}

module _ (R : Rules) (S : States) where
  abbrev G : Grammar
  G = grammar_of R

  abbrev A : Automaton
  A = automaton R S

  -- Where an action can be, and its rank.
  pub record Placed (s w : ℕ) (a : Action) : Type 0 where
    pub state : s < S.count
    pub word : w ≤ R.terminals
    pub rank_high : rank a ≤ R.count

  pub placed : {s w : ℕ} {a : Action} → Holds G A s w a → Placed s w a
  placed {s} {w} (may_shift {t = t} i e) = record { state = (goto_moves R S s w t e).from; word = terminal_high R S w i; rank_high = omega arith }
  placed {s} (may_accept h) = record { state = (has_item R S s 0 1 h).0; word = omega arith; rank_high = omega arith }
  placed {s} {w} (may_reduce {r = r} i l) =
      let f = l.follow in
      record {
        state = walk_inside R S (right_side G r) l.leads (within R S _ (follow_transition f)).state;
        word = direct_below R S f.read.is_transition.to w f.read.direct;
        rank_high = rule_high R r i;
      }

  -- Two actions of a cell with the same rank are the same.
  pub same_rank : {s w : ℕ} {a b : Action} → Holds G A s w a → Holds G A s w b → rank a ≡ rank b → a ≡ b
  same_rank {s} {w} (may_shift i e) (may_shift j f) h = ap Shift (one_goto R S s w e f)
  same_rank (may_shift i e) (may_accept k) h = absurd (omega (arith, i.low))
  same_rank (may_shift i e) (may_reduce j l) h = absurd (omega (arith, j.low))
  same_rank (may_accept k) (may_shift i e) h = absurd (omega (arith, i.low))
  same_rank (may_accept k) (may_accept m) h = refl
  same_rank (may_accept k) (may_reduce j l) h = absurd (omega (arith, j.low))
  same_rank (may_reduce j l) (may_shift i e) h = absurd (omega (arith, j.low))
  same_rank (may_reduce j l) (may_accept k) h = absurd (omega (arith, j.low))
  same_rank (may_reduce j l) (may_reduce i m) h = ap Reduce h

  -- An action with the rank of a rule is its reduction.
  pub of_rank : (a : Action) (r : ℕ) → 1 ≤ r → rank a ≡ r → a ≡ Reduce r
  of_rank (Shift t) r l e = absurd (omega arith)
  of_rank Accept r l e = absurd (omega arith)
  of_rank (Reduce q) r l e = ap Reduce e
