-- Three small sheets, one of them packed, and the tables of two, written out.
use Rattle.std.specs.Prelude.{ℕ, List, [], ◌∷◌}
use Rattle.grammar.specs.Grammar.{Grammar, Rule}
use Rattle.grammar.specs.declared.action.Action.TheVariants.{Shift, Accept, Reduce}
use Rattle.examples.specs.Tables.{Tables}

-- A left side and a right side.
abbrev pub rule : ℕ → List ℕ → Rule
rule X Xs = record { left = X; right = Xs }

-- Terminals 1 move, 2 wall, 3 size; nonterminals 4 line, 5 edit, 6 tail. A line is an edit and a tail, an edit is move wall, and a tail is size and a tail, or nothing.
unfoldable pub sheet_a : Grammar
sheet_a =
    record {
      terminals = 3;
      nonterminals = 3;
      rules = rule 4 (5 ∷ 6 ∷ []) ∷ rule 5 (1 ∷ 2 ∷ []) ∷ rule 6 (3 ∷ 6 ∷ []) ∷ rule 6 [] ∷ [];
    }

-- Sheet A packed: the counts, the contents and the bodies.
abbrev pub packed_a : List ℕ
packed_a =
    3 ∷ 3 ∷ 4
    ∷ 7 ∷ 11 ∷ 15 ∷ 19
    ∷ 4 ∷ 2 ∷ 5 ∷ 6
    ∷ 5 ∷ 2 ∷ 1 ∷ 2
    ∷ 6 ∷ 2 ∷ 3 ∷ 6
    ∷ 6 ∷ 0
    ∷ []

-- Terminals 1 to 4, nonterminals 5 and 6. What may come behind 6 depends on the state: word 1 at first, and word 3 behind word 2.
unfoldable pub sheet_b : Grammar
sheet_b =
    record {
      terminals = 4;
      nonterminals = 2;
      rules = rule 5 (6 ∷ 1 ∷ []) ∷ rule 5 (2 ∷ 6 ∷ 3 ∷ []) ∷ rule 5 (2 ∷ 4 ∷ 1 ∷ []) ∷ rule 6 (4 ∷ []) ∷ [];
    }

-- Terminals 1 to 4, nonterminals 5, 6 and 7. Word 4 leads to one state from two others, and there rules 5 and 6 end with the same words ahead.
unfoldable pub sheet_c : Grammar
sheet_c =
    record {
      terminals = 4;
      nonterminals = 3;
      rules =
          rule 5 (6 ∷ 1 ∷ [])
          ∷ rule 5 (2 ∷ 6 ∷ 3 ∷ [])
          ∷ rule 5 (7 ∷ 3 ∷ [])
          ∷ rule 5 (2 ∷ 7 ∷ 1 ∷ [])
          ∷ rule 6 (4 ∷ [])
          ∷ rule 7 (4 ∷ [])
          ∷ [];
    }

-- The tables of sheet A: states in the order of their numbers from 0, moves and actions by state.
unfoldable pub tables_a : Tables
tables_a =
    record {
      states =
          ((0, 0) ∷ (1, 0) ∷ (2, 0) ∷ [])
          ∷ ((2, 1) ∷ [])
          ∷ ((0, 1) ∷ [])
          ∷ ((1, 1) ∷ (3, 0) ∷ (4, 0) ∷ [])
          ∷ ((2, 2) ∷ [])
          ∷ ((3, 1) ∷ (3, 0) ∷ (4, 0) ∷ [])
          ∷ ((1, 2) ∷ [])
          ∷ ((3, 2) ∷ [])
          ∷ [];
      moves =
          ((0, 1), 1) ∷ ((0, 4), 2) ∷ ((0, 5), 3) ∷ ((1, 2), 4)
          ∷ ((3, 3), 5) ∷ ((3, 6), 6) ∷ ((5, 3), 5) ∷ ((5, 6), 7)
          ∷ [];
      actions =
          ((0, 1), Shift 1) ∷ ((1, 2), Shift 4) ∷ ((2, 0), Accept) ∷ ((3, 0), Reduce 4) ∷ ((3, 3), Shift 5)
          ∷ ((4, 0), Reduce 2) ∷ ((4, 3), Reduce 2) ∷ ((5, 0), Reduce 4) ∷ ((5, 3), Shift 5)
          ∷ ((6, 0), Reduce 1) ∷ ((7, 0), Reduce 3)
          ∷ [];
    }

-- The tables of sheet B.
unfoldable pub tables_b : Tables
tables_b =
    record {
      states =
          ((0, 0) ∷ (1, 0) ∷ (2, 0) ∷ (3, 0) ∷ (4, 0) ∷ [])
          ∷ ((2, 1) ∷ (3, 1) ∷ (4, 0) ∷ [])
          ∷ ((4, 1) ∷ [])
          ∷ ((0, 1) ∷ [])
          ∷ ((1, 1) ∷ [])
          ∷ ((3, 2) ∷ (4, 1) ∷ [])
          ∷ ((2, 2) ∷ [])
          ∷ ((1, 2) ∷ [])
          ∷ ((3, 3) ∷ [])
          ∷ ((2, 3) ∷ [])
          ∷ [];
      moves =
          ((0, 2), 1) ∷ ((0, 4), 2) ∷ ((0, 5), 3) ∷ ((0, 6), 4) ∷ ((1, 4), 5)
          ∷ ((1, 6), 6) ∷ ((4, 1), 7) ∷ ((5, 1), 8) ∷ ((6, 3), 9)
          ∷ [];
      actions =
          ((0, 2), Shift 1) ∷ ((0, 4), Shift 2) ∷ ((1, 4), Shift 5) ∷ ((2, 1), Reduce 4) ∷ ((3, 0), Accept)
          ∷ ((4, 1), Shift 7) ∷ ((5, 1), Shift 8) ∷ ((5, 3), Reduce 4) ∷ ((6, 3), Shift 9)
          ∷ ((7, 0), Reduce 1) ∷ ((8, 0), Reduce 3) ∷ ((9, 0), Reduce 2)
          ∷ [];
    }
