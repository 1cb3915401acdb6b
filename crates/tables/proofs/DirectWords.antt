-- The direct words of a state and those behind a transition.
use Rattle.std.proofs.Common.{◌≡◌, ℕ, ◌<◌, ◌≤◌, false, List, get_or, sym, ◌∙◌, subst, arith, Option, Some, None, MatchOption}
use Rattle.std.proofs.lemmas.Bool.{both_ways}
use Rattle.std.proofs.lemmas.Option.{none-some}
use Rattle.grammar.specs.Grammar.{Grammar, IsTerminal}
use Rattle.grammar.specs.States.{Automaton}
use Rattle.grammar.specs.Lookahead.{Direct, next_word, next_end}
use Rattle.tables.specs.declared.rules.Rules.{Rules}
use Rattle.tables.specs.declared.states.States.{States}
use Rattle.tables.specs.Arrays.{grammar_of, automaton}
use Rattle.gather.specs.declared.word_set.WordSet.{WordSet}
use Rattle.gather.specs.Members.{no_members}
use Rattle.tables.specs.Transitions.{DirectIn, DirectAt, transition_at}
use Rattle.tables.specs.WordSets.{WordsBelow, SetsOf}
use Rattle.tables.proofs.RuleArrays.{terminals_is}
use Rattle.tables.proofs.Gotos.{one_goto}
use Rattle.tables.proofs.Transitions.{at_place, behind_place}
use Rattle.tables.proofs.WordSets.{words_none, words_all}

module _ (R : Rules) (S : States) where
  abbrev G : Grammar
  G = grammar_of R

  abbrev A : Automaton
  A = automaton R S

  pub terminal : (w : ℕ) → 1 ≤ w → w ≤ R.terminals → IsTerminal G w
  terminal w low high = record { low = low; high = omega (arith, terminals_is R) }

  pub terminal_high : (w : ℕ) → IsTerminal G w → w ≤ R.terminals
  terminal_high w i = omega (arith, i.high, terminals_is R)

  -- A direct word is a terminal or the end mark.
  pub direct_below : (s w : ℕ) → Direct G A s w → w ≤ R.terminals
  direct_below s w (next_word i e) = terminal_high w i
  direct_below s w (next_end h) = omega arith

  pub no_direct_end : (s : ℕ) → A.has s 0 1 ≡ false → Direct G A s 0 → ⊥
  no_direct_end s e (next_word i g) = omega (arith, i.low)
  no_direct_end s e (next_end h) = both_ways _ e h

  pub no_direct_word : (s w : ℕ) → 1 ≤ w → None ≡ A.goto s w → Direct G A s w → ⊥
  no_direct_word s w low e (next_word i g) = none-some _ (e ∙ g)
  no_direct_word s w low e (next_end h) = absurd (omega arith)

  pub direct_word : (s w t : ℕ) → 1 ≤ w → w ≤ R.terminals → Some t ≡ A.goto s w → Direct G A s w
  direct_word s w t low high e = next_word (terminal w low high) (sym e)

  pub behind_below : (i w : ℕ) → DirectAt R S i w → w ≤ R.terminals
  behind_below i w d = direct_below d.is_transition.to w d.direct

  -- The words behind a transition are those of the state behind it.
  words_behind : (l : List WordSet) (i t : ℕ) → SetsOf (DirectIn R S) 96 l → Some t ≡ A.goto (transition_at R i).0 (transition_at R i).1 → WordsBelow (DirectAt R S i) 64 (get_or l t no_members)
  words_behind l i t s e =
      let l : t < 96 = omega (arith, behind_place R S i t e, S.few) in
      record {
        sound = λ w h. record { is_transition = record { nonterminal = (at_place R S i t e).nonterminal; to = t; move = sym e }; direct = s.sound t w l h };
        whole = λ w b d. s.whole t w l (subst (λ q. Direct G A q w) (one_goto R S (transition_at R i).0 (transition_at R i).1 d.is_transition.move (sym e)) d.direct);
      }

  words_nowhere : (i : ℕ)
      → None ≡ A.goto (transition_at R i).0 (transition_at R i).1
      → WordsBelow (DirectAt R S i) 64 no_members
  words_nowhere i e =
      words_all (DirectAt R S i) 0 64 no_members
      (λ w d. absurd (none-some _ (e ∙ d.is_transition.move))) (words_none (DirectAt R S i))

  -- Both, by the state behind or none.
  pub words_told : (l : List WordSet) (i : ℕ) (o : Option ℕ) (y : WordSet)
      → SetsOf (DirectIn R S) 96 l
      → o ≡ A.goto (transition_at R i).0 (transition_at R i).1
      → MatchOption o (y ≡ no_members) (λ t. y ≡ get_or l t no_members)
      → WordsBelow (DirectAt R S i) 64 y
  words_told l i None y s e m =
      subst (λ z. WordsBelow (DirectAt R S i) 64 z) (sym m) (words_nowhere i e)
  words_told l i (Some t) y s e m =
      subst (λ z. WordsBelow (DirectAt R S i) 64 z) (sym m) (words_behind l i t s e)
