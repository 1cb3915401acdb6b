-- The certificates of the three sheets, and that they pass.
use Rattle.std.proofs.Common.{◌≡◌, true, [], ◌∷◌, refl, Some, None}
use Rattle.grammar.specs.declared.action.Action.TheVariants.{Shift, Accept, Reduce}
use Rattle.examples.specs.Tables.{Tables}
use Rattle.examples.specs.Sheets.{sheet_a, sheet_b, sheet_c, tables_a, tables_b}
use Rattle.examples.proofs.Certificate.{Certificate}
use Rattle.examples.proofs.OutcomeTest.{passes}

unfoldable pub certificate_a : Certificate
certificate_a =
    record {
      tables = tables_a;
      nullable = 6 ∷ [];
      productive = 5 ∷ 6 ∷ 4 ∷ [];
      used = 4 ∷ 5 ∷ 6 ∷ [];
      directs = ((0, 4), 0) ∷ ((0, 5), 3) ∷ [];
      reads = ((0, 4), 0) ∷ ((0, 5), 3) ∷ [];
      follows = ((0, 4), 0) ∷ ((0, 5), 0) ∷ ((0, 5), 3) ∷ ((3, 6), 0) ∷ ((5, 6), 0) ∷ [];
      conflict = None;
    }

unfoldable pub certificate_b : Certificate
certificate_b =
    record {
      tables = tables_b;
      nullable = [];
      productive = 5 ∷ 6 ∷ [];
      used = 5 ∷ 6 ∷ [];
      directs = ((0, 5), 0) ∷ ((0, 6), 1) ∷ ((1, 6), 3) ∷ [];
      reads = ((0, 5), 0) ∷ ((0, 6), 1) ∷ ((1, 6), 3) ∷ [];
      follows = ((0, 5), 0) ∷ ((0, 6), 1) ∷ ((1, 6), 3) ∷ [];
      conflict = None;
    }

unfoldable pub tables_c : Tables
tables_c =
    record {
      states =
          ((0, 0) ∷ (1, 0) ∷ (2, 0) ∷ (3, 0) ∷ (4, 0) ∷ (5, 0) ∷ (6, 0) ∷ [])
          ∷ ((2, 1) ∷ (4, 1) ∷ (5, 0) ∷ (6, 0) ∷ [])
          ∷ ((5, 1) ∷ (6, 1) ∷ [])
          ∷ ((0, 1) ∷ [])
          ∷ ((1, 1) ∷ [])
          ∷ ((3, 1) ∷ [])
          ∷ ((2, 2) ∷ [])
          ∷ ((4, 2) ∷ [])
          ∷ ((1, 2) ∷ [])
          ∷ ((3, 2) ∷ [])
          ∷ ((2, 3) ∷ [])
          ∷ ((4, 3) ∷ [])
          ∷ [];
      moves =
          ((0, 2), 1) ∷ ((0, 4), 2) ∷ ((0, 5), 3) ∷ ((0, 6), 4) ∷ ((0, 7), 5) ∷ ((1, 4), 2)
          ∷ ((1, 6), 6) ∷ ((1, 7), 7) ∷ ((4, 1), 8) ∷ ((5, 3), 9) ∷ ((6, 3), 10) ∷ ((7, 1), 11)
          ∷ [];
      actions =
          ((0, 2), Shift 1) ∷ ((0, 4), Shift 2) ∷ ((1, 4), Shift 2)
          ∷ ((2, 1), Reduce 5) ∷ ((2, 1), Reduce 6) ∷ ((2, 3), Reduce 5) ∷ ((2, 3), Reduce 6)
          ∷ ((3, 0), Accept) ∷ ((4, 1), Shift 8) ∷ ((5, 3), Shift 9) ∷ ((6, 3), Shift 10) ∷ ((7, 1), Shift 11)
          ∷ ((8, 0), Reduce 1) ∷ ((9, 0), Reduce 3) ∷ ((10, 0), Reduce 2) ∷ ((11, 0), Reduce 4)
          ∷ [];
    }

unfoldable pub certificate_c : Certificate
certificate_c =
    record {
      tables = tables_c;
      nullable = [];
      productive = 6 ∷ 7 ∷ 5 ∷ [];
      used = 5 ∷ 6 ∷ 7 ∷ [];
      directs = ((0, 5), 0) ∷ ((0, 6), 1) ∷ ((0, 7), 3) ∷ ((1, 6), 3) ∷ ((1, 7), 1) ∷ [];
      reads = ((0, 5), 0) ∷ ((0, 6), 1) ∷ ((0, 7), 3) ∷ ((1, 6), 3) ∷ ((1, 7), 1) ∷ [];
      follows = ((0, 5), 0) ∷ ((0, 6), 1) ∷ ((0, 7), 3) ∷ ((1, 6), 3) ∷ ((1, 7), 1) ∷ [];
      conflict = Some (record { state = 2; word = 1; first = Reduce 5; second = Reduce 6 });
    }

pub passed_a : passes sheet_a certificate_a ≡ true
unfolding passes sheet_a tables_a certificate_a
passed_a = refl

pub passed_b : passes sheet_b certificate_b ≡ true
unfolding passes sheet_b tables_b certificate_b
passed_b = refl

pub passed_c : passes sheet_c certificate_c ≡ true
unfolding passes sheet_c tables_c certificate_c
passed_c = refl
