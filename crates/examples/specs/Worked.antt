-- What three small sheets come to: one joint table of examples, a row each.
use Rattle.std.specs.Prelude.{◌≡◌, ℕ, ◌⊎◌, ◌↔◌, [], ◌∷◌, take, Some}
use Rattle.grammar.specs.Lookahead.{Lookahead}
use Rattle.grammar.specs.Line.{Turned, after}
use Rattle.grammar.specs.Outcome.{Built, built, Outcome}
use Rattle.grammar.specs.Refusals.{conflict}
use Rattle.grammar.specs.declared.action.Action.TheVariants.{Shift, Reduce}
use Rattle.sheet.specs.PackedRefusals.{off_told}
use Rattle.sheet.specs.Packing.{packed, OffTold}
use Rattle.examples.specs.Tables.{automaton, cells}
use Rattle.examples.specs.Sheets.{sheet_a, sheet_b, sheet_c, packed_a, tables_a, tables_b}
use Rattle.examples.specs.Turns.{words, judged}

pub record Worked : Type 0 where
  -- Sheet A packs to 21 numbers.
  pub a_packed : packed sheet_a ≡ packed_a
  -- Without the last of them the numbers are refused, number 1, at rule 4, whose body is not all there.
  pub a_cut : OffTold (take 20 packed_a) (off_told 4)
  -- Sheet A builds and has 8 states; its tables are those written out.
  pub a_builds : Outcome sheet_a (built 8 (automaton tables_a) (cells tables_a))
  -- In its state 4, rule 2 has the lookahead {0, 3}.
  pub a_lookahead : (w : ℕ) → Lookahead sheet_a (automaton tables_a) 4 2 w ↔ ((w ≡ 0) ⊎ (w ≡ 3))
  -- The line 1 2 3 is judged good, with the rules 2 4 3 1.
  pub a_line : judged sheet_a tables_a (1 ∷ 2 ∷ 3 ∷ []) ≡ after (record { states = 2 ∷ 0 ∷ []; words = 1 ∷ 2 ∷ 3 ∷ []; rules = 2 ∷ 4 ∷ 3 ∷ 1 ∷ [] })
  -- A first word 3 is refused, number 14.
  pub a_first_word : words sheet_a tables_a (3 ∷ []) ≡ Turned.refused 14
  -- An empty line judged is refused, number 14.
  pub a_empty_line : judged sheet_a tables_a [] ≡ Turned.refused 14
  -- Sheet B builds.
  pub b_builds : Outcome sheet_b (built 10 (automaton tables_b) (cells tables_b))
  -- In its state 5, word 1 shifts and word 3 reduces by rule 4.
  pub b_shifts : cells tables_b 5 1 ≡ Some (Shift 8)
  pub b_reduces : cells tables_b 5 3 ≡ Some (Reduce 4)
  -- Sheet C is refused: in its state 2, at word 1, rules 5 and 6 meet.
  pub c_conflict : Outcome sheet_c (Built.refused (conflict 2 1 (Reduce 5) (Reduce 6)))
