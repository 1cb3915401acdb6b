-- Rows with all turns over are the exact cells of their states, or tell the first conflict.
use Rattle.std.proofs.Common.{◌≡◌, ℕ, ◌+◌, ◌*◌, ◌<◌, ◌↔◌, List, [], length, get_or, set, replicate, Some, None, sym, ap, ◌∙◌, subst, inl, inr, arith, Option}
use Rattle.std.proofs.lemmas.List.{get_or-set_same, get_or-set_other, get_or_past, length-set, length-replicate, get_or-replicate}
use Rattle.std.proofs.lemmas.Bool.{cases_lt, cases_eq}
use Rattle.std.proofs.lemmas.Option.{none-some, same_Some}
use Rattle.grammar.specs.Cells.{FirstConflict, Exact}
use Rattle.grammar.specs.declared.action.Action.{Action}
use Rattle.tables.specs.declared.conflict.Conflict.{Conflict}
use Rattle.tables.specs.declared.row.Row.{Row}
use Rattle.tables.specs.declared.rules.Rules.{Rules}
use Rattle.tables.specs.declared.states.States.{States}
use Rattle.tables.specs.Arrays.{grammar_of, automaton}
use Rattle.tables.specs.Cells.{cell_at, RowsUpto}
use Rattle.tables.specs.RowMeaning.{turn, Has, CellUpto, Alone, LowestConflict, ConflictUpto, RowUpto}
use Rattle.tables.proofs.HeldActions.{placed}

no_action : (n w : ℕ) → ◌≡◌ {A = Option Action} (get_or (replicate n None) w None) None
no_action n w =
    elim (cases_lt w n) [
      | inl l ↦ get_or-replicate {A = Option Action} n w None None l
      | inr l ↦ get_or_past {X = Option Action} (replicate n None) w None (omega (arith, length-replicate {A = Option Action} n None))
    ]

-- No cell holds an action.
abbrev pub blank : List (List (Option Action))
blank = replicate 96 (replicate 64 None)

pub blank_length : length blank ≡ 96
blank_length = length-replicate {A = List (Option Action)} 96 (replicate 64 None)

module _ (R : Rules) (S : States) where
  abbrev end : ℕ
  end = 64 * (R.count + 1)

  module _ (s : ℕ) where
    over : (w : ℕ) (a : Action) → Has R S s w a → turn w a < end
    over w a h = let p = placed R S h in omega (arith, p.word, p.rank_high, R.terminals63)

    told : (w : ℕ) (o : Option Action) → CellUpto R S s end w o → Alone R S s end w → (a : Action) → (o ≡ Some a) ↔ Has R S s w a
    told w None f alone a = (λ e. absurd (none-some _ e), λ h. absurd (f a h (over w a h)))
    told w (Some b) f alone a = (λ e. subst (λ x. Has R S s w x) (same_Some _ _ e) f.holds, λ h. ap {B = Option Action} Some (alone b a f.holds h f.before (over w a h)))

    row_exact : (row : Row) → RowUpto R S s end row → row.conflict ≡ None → (w : ℕ) (a : Action) → (get_or row.cells w None ≡ Some a) ↔ Has R S s w a
    row_exact row f k w a =
        elim (cases_lt w 64) [
          | inl l ↦ told w (get_or row.cells w None) (f.cells w l) (subst (λ o. ConflictUpto R S s end o) k f.conflict w) a
          | inr l ↦ (
            λ e. absurd (none-some _ (sym (get_or_past {X = Option Action} row.cells w None (omega (arith, f.size))) ∙ e)),
            λ h. absurd (omega (arith, (placed R S h).word, R.terminals63)),
          )
        ]

  pub rows_none : RowsUpto R S 0 blank
  rows_none = record {
    size = blank_length;
    exact = λ s w a l. absurd (omega arith);
    rest = λ s w l.
        elim (cases_lt s 96) [
          | inl k ↦ ap (λ (r : List (Option Action)). get_or r w None) (get_or-replicate {A = List (Option Action)} 96 s (replicate 64 None) [] k) ∙ no_action 64 w
          | inr k ↦ ap (λ (r : List (Option Action)). get_or r w None) (get_or_past {X = List (Option Action)} blank s [] (omega (arith, blank_length)))
        ];
  }

  module _ (n : ℕ) (below : n < S.count) (cells : List (List (Option Action))) (f : RowsUpto R S n cells) (row : Row) (g : RowUpto R S n end row) where
    pub rows_more : row.conflict ≡ None → RowsUpto R S (n + 1) (set cells n row.cells)
    rows_more k =
        let same : get_or (set cells n row.cells) n [] ≡ row.cells = get_or-set_same cells n row.cells [] (omega (arith, f.size, S.few)) in
        record {
          size = length-set cells n row.cells ∙ f.size;
          exact = λ s w a l.
              elim (cases_eq s n) [
                | inl e ↦
                    subst (λ t. (cell_at (set cells n row.cells) t w ≡ Some a) ↔ Has R S t w a) (sym e)
                    (subst (λ (r : List (Option Action)). (get_or r w None ≡ Some a) ↔ Has R S n w a) (sym same) (row_exact n row g k w a))
                | inr ne ↦
                    subst (λ (r : List (Option Action)). (get_or r w None ≡ Some a) ↔ Has R S s w a) (sym (get_or-set_other cells n s row.cells [] ne)) (f.exact s w a (omega (arith, ne)))
              ];
          rest = λ s w l. ap (λ (r : List (Option Action)). get_or r w None) (get_or-set_other cells n s row.cells [] (λ e. omega arith)) ∙ f.rest s w (omega arith);
        }

    -- Rows that are exact have no conflict.
    apart : (p v : ℕ) (c d : Action) → p < n → Has R S p v c → Has R S p v d → c ≡ d
    apart p v c d l x y = same_Some _ _ (sym ((f.exact p v c l).1 x) ∙ (f.exact p v d l).1 y)

    pub first_conflict : (k : Conflict) → row.conflict ≡ Some k → FirstConflict (grammar_of R) (automaton R S) n k.word k.first k.second
    first_conflict k e =
        let q : LowestConflict R S n end k = subst (λ o. ConflictUpto R S n end o) e g.conflict in
        record {
          first = q.first;
          second = q.second;
          order = q.order;
          least = q.least;
          earlier = λ p v c d o x y.
              elim o [
                | inl l ↦ apart p v c d l x y
                | inr h ↦
                    (let x' : Has R S n v c = subst (λ m. Has R S m v c) h.0 x in
                    let y' : Has R S n v d = subst (λ m. Has R S m v d) h.0 y in
                    q.lower v h.1 c d x' y' (over n v c x') (over n v d y'))
              ];
        }

  pub rows_all : (cells : List (List (Option Action))) → RowsUpto R S S.count cells → Exact (grammar_of R) (automaton R S) (cell_at cells)
  rows_all cells f s w a =
      elim (cases_lt s S.count) [
        | inl l ↦ f.exact s w a l
        | inr l ↦ (λ e. absurd (none-some _ (sym (f.rest s w l) ∙ e)), λ h. absurd (omega (arith, (placed R S h).state)))
      ]
