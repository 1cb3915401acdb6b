-- The row of a state, filled with its moves and its reductions.
use Rattle.std.proofs.Common.{◌≡◌, ℕ, zero, suc, ◌+◌, ◌*◌, ◌<◌, ◌≤◌, true, false, List, [], length, get_or, set, replicate, Some, None, sym, ap, ◌∙◌, subst, inl, inr, add-one, arith, Option}
use Rattle.std.proofs.lemmas.List.{get_or-set_same, get_or-set_other, length-set, length-replicate, get_or-replicate}
use Rattle.std.proofs.lemmas.Bool.{cases_eq, cases_Bool, both_ways}
use Rattle.std.proofs.lemmas.Option.{none-some}
use Rattle.gather.specs.Members.{has, no_members}
use Rattle.gather.specs.declared.word_set.WordSet.{WordSet}
use Rattle.grammar.specs.Grammar.{Grammar}
use Rattle.grammar.specs.States.{Automaton}
use Rattle.grammar.specs.Cells.{rank, may_shift, may_accept, may_reduce}
use Rattle.grammar.specs.declared.action.Action.{Action}
use Rattle.grammar.specs.declared.action.Action.TheVariants.{Shift, Reduce}
use Rattle.tables.specs.declared.row.Row.{Row}
use Rattle.tables.specs.declared.rules.Rules.{Rules}
use Rattle.tables.specs.declared.states.States.{States}
use Rattle.tables.specs.Arrays.{grammar_of, automaton}
use Rattle.tables.specs.Lookaheads.{Lookaheads}
use Rattle.tables.specs.Rows.{reduced}
use Rattle.tables.specs.RowMeaning.{Has, CellUpto, Alone, ConflictUpto, RowUpto}
use Rattle.tables.proofs.RuleArrays.{is_rule_lem}
use Rattle.tables.proofs.DirectWords.{terminal}
use Rattle.tables.proofs.HeldActions.{placed, same_rank, of_rank}
use Rattle.tables.proofs.FilledRows.{cell_on, row_on, enter}
use Rattle.tables.proofs.ReducedRows.{reduced_none, reduced_has, reduced_lacks}

module _ (R : Rules) (S : States) (s : ℕ) where
  abbrev G : Grammar
  G = grammar_of R

  abbrev A : Automaton
  A = automaton R S

  -- No turn yet.
  pub row_first : (row : Row) → row.cells ≡ replicate 64 None → row.conflict ≡ None → RowUpto R S s 0 row
  row_first row e k = record {
    size = ap length e ∙ length-replicate {A = Option Action} 64 None;
    cells = λ w l. subst (λ o. CellUpto R S s 0 w o) (sym (ap (λ (m : List (Option Action)). get_or m w None) e ∙ get_or-replicate {A = Option Action} 64 w None None l)) (λ c h b. omega arith);
    conflict = subst (λ o. ConflictUpto R S s 0 o) (sym k) (λ w c d hc hd lc ld. absurd (omega arith));
  }

  -- Actions whose turns are before 64 are moves, and a cell has one at most.
  moves_alone : (m w : ℕ) → m ≤ 64 → Alone R S s m w
  moves_alone m w h c d hc hd lc ld = same_rank R S hc hd (omega arith)

  -- The move by a word.
  pub row_move : (w : ℕ) (a : Action) (row : Row) → w < 64 → rank a ≡ 0 → Has R S s w a → row.conflict ≡ None → RowUpto R S s w row → RowUpto R S s (w + 1) (record { cells = set row.cells w (Some a); conflict = row.conflict })
  row_move w a row inside z here k f = record {
    size = length-set row.cells w (Some a) ∙ f.size;
    cells = λ v l.
        elim (cases_eq v w) [
          | inl e ↦
              subst (λ u. CellUpto R S s (w + 1) u (get_or (set row.cells w (Some a)) u None)) (sym e)
              (subst (λ o. CellUpto R S s (w + 1) w o) (sym (get_or-set_same row.cells w (Some a) None (omega (arith, f.size))))
              (record { holds = here; before = omega arith; lowest = λ c h b. omega arith }))
          | inr ne ↦
              subst (λ o. CellUpto R S s (w + 1) v o) (sym (get_or-set_other row.cells w v (Some a) None ne)) (other v ne l)
        ];
    conflict = subst (λ o. ConflictUpto R S s (w + 1) o) (sym k) (λ v. moves_alone (w + 1) v (omega arith));
  }
    where
      other : (v : ℕ) → (v ≡ w → ⊥) → v < 64 → CellUpto R S s (w + 1) v (get_or row.cells v None)
      other v ne l = cell_on R S s w (w + 1) (omega arith) v (λ c h u b. ne (omega arith)) (get_or row.cells v None) (f.cells v l)

  pub row_no_move : (w : ℕ) (row : Row) → w < 64 → ((a : Action) → Has R S s w a → rank a ≡ 0 → ⊥) → RowUpto R S s w row → RowUpto R S s (w + 1) row
  row_no_move w row inside nay f =
      row_on R S s w (w + 1) (omega arith) row (λ v c h u b.
      let below : v < 64 = omega (arith, (placed R S h).word, R.terminals63) in
      let e : v ≡ w = omega arith in
      nay c (subst (λ x. Has R S s x c) e h) (omega arith)) f

  pub no_shift : (w : ℕ) → 1 ≤ w → None ≡ A.goto s w → (a : Action) → Has R S s w a → rank a ≡ 0 → ⊥
  no_shift w low e a (may_shift i g) z = none-some _ (e ∙ g)
  no_shift w low e a (may_accept h) z = absurd (omega arith)
  no_shift w low e a (may_reduce i l) z = absurd (omega (arith, i.low))

  pub no_accept : A.has s 0 1 ≡ false → (a : Action) → Has R S s 0 a → rank a ≡ 0 → ⊥
  no_accept e a (may_shift i g) z = absurd (omega (arith, i.low))
  no_accept e a (may_accept h) z = both_ways _ e h
  no_accept e a (may_reduce i l) z = absurd (omega (arith, i.low))

  pub shift : (w t : ℕ) → 1 ≤ w → w ≤ R.terminals → Some t ≡ A.goto s w → Has R S s w (Shift t)
  shift w t low high e = may_shift (terminal R S w low high) (sym e)

  -- Nothing is at the words behind the last.
  pub last_word : (r n : ℕ) (row : Row) → R.terminals + 1 ≤ n → n ≤ 64 → RowUpto R S s (64 * r + n) row → RowUpto R S s (64 * (r + 1)) row
  last_word r n row h k f =
      row_on R S s (64 * r + n) (64 * (r + 1)) (omega arith) row (λ v c x u b. omega (arith, (placed R S x).word, R.terminals63)) f

  module _ (l : List (List WordSet)) (L : Lookaheads R S l) (low : s < S.count)
      (r : ℕ) (rule_low : 1 ≤ r) (rule_high : r ≤ R.count) where
    abbrev entry : WordSet
    entry = get_or (get_or l s []) r no_members

    may : (w : ℕ) → has entry w ≡ true → Has R S s w (Reduce r)
    may w e = may_reduce (is_rule_lem R r rule_low rule_high) (L.sound s r w (omega (arith, S.few)) (is_rule_lem R r rule_low rule_high) e)

    may_not : (w : ℕ) → has entry w ≡ false → Has R S s w (Reduce r) → ⊥
    may_not w e (may_reduce i a) = both_ways (has entry w) e (L.whole s r w i a)

    -- A lookahead without words changes nothing.
    pub row_no_rule : (row : Row)
        → entry ≡ no_members
        → RowUpto R S s (64 * r) row
        → RowUpto R S s (64 * (r + 1)) row
    row_no_rule row e f =
        row_on R S s (64 * r) (64 * (r + 1)) (omega arith) row
        (λ v c h u b.
        let below : v < 64 = omega (arith, (placed R S h).word, R.terminals63) in
        may_not v (ap (λ (x : WordSet). has x v) e)
        (subst (λ x. Has R S s v x) (of_rank R S c r rule_low (omega arith)) h)) f

    -- The words of its lookahead, one after the other.
    pub row_rule : (row : Row) (n : ℕ)
        → n ≤ 64
        → RowUpto R S s (64 * r) row
        → RowUpto R S s (64 * r + n) (reduced entry r n row)
    row_rule row zero h f =
        let start : 64 * r ≡ 64 * r + 0 = omega arith in
        subst (λ m. RowUpto R S s m (reduced entry r 0 row)) start
        (subst (λ t. RowUpto R S s (64 * r) t) (sym (reduced_none entry r row)) f)
    row_rule row (suc n) h f =
        let g = row_rule row n (omega arith) f in
        let next : (64 * r + n) + 1 ≡ 64 * r + (n + 1) = omega arith in
        subst (λ m. RowUpto R S s (64 * r + m) (reduced entry r m row)) (add-one n)
        (subst (λ m. RowUpto R S s m (reduced entry r (n + 1) row)) next
        (elim (cases_Bool (has entry n)) [
          | inl b ↦
              subst (λ t. RowUpto R S s ((64 * r + n) + 1) t) (sym (reduced_has entry r n row b))
              (enter R S s r n rule_low (omega arith) (may n b) (reduced entry r n row) g)
          | inr b ↦
              subst (λ t. RowUpto R S s ((64 * r + n) + 1) t) (sym (reduced_lacks entry r n row b))
              (row_on R S s (64 * r + n) ((64 * r + n) + 1) (omega arith) (reduced entry r n row)
              (λ v c k u w.
              let below : v < 64 = omega (arith, (placed R S k).word, R.terminals63) in
              let same : v ≡ n = omega arith in
              may_not n b
              (subst (λ y. Has R S s n y) (of_rank R S c r rule_low (omega arith))
              (subst (λ y. Has R S s y c) same k))) g)
        ]))
