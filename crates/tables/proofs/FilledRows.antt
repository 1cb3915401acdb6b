-- One turn more in a row.
use Rattle.std.proofs.Common.{◌≡◌, ℕ, ◌+◌, ◌*◌, ◌<◌, ◌≤◌, ltb, get_or, set, Some, None, sym, refl, ◌∙◌, subst, inl, inr, arith, Option}
use Rattle.std.proofs.lemmas.List.{get_or-set_same, get_or-set_other, length-set}
use Rattle.std.proofs.lemmas.Bool.{cases_lt, cases_eq, cases_Bool, cond-true, cond-false, ltb-true, ltb-false}
use Rattle.grammar.specs.Cells.{rank}
use Rattle.grammar.specs.declared.action.Action.{Action}
use Rattle.grammar.specs.declared.action.Action.TheVariants.{Reduce}
use Rattle.tables.specs.declared.conflict.Conflict.{Conflict}
use Rattle.tables.specs.declared.row.Row.{Row}
use Rattle.tables.specs.declared.rules.Rules.{Rules}
use Rattle.tables.specs.declared.states.States.{States}
use Rattle.tables.specs.Rows.{lowest_of, entered_by, entered}
use Rattle.tables.specs.RowMeaning.{turn, Has, FirstAction, CellUpto, Alone, LowestConflict, ConflictUpto, RowUpto}
use Rattle.tables.proofs.HeldActions.{placed, of_rank}

module _ (R : Rules) (S : States) (s : ℕ) where
  word_below : (w : ℕ) (c : Action) → Has R S s w c → w < 64
  word_below w c h = omega (arith, (placed R S h).word, R.terminals63)

  -- Turns pass in which nothing happens.
  module _ (n m : ℕ) (le : n ≤ m) where
    abbrev Quiet : ℕ → Type 0
    Quiet w = (c : Action) → Has R S s w c → n ≤ turn w c → turn w c < m → ⊥

    pub cell_on : (w : ℕ) → Quiet w → (o : Option Action) → CellUpto R S s n w o → CellUpto R S s m w o
    cell_on w q None f =
        λ c h l.
        elim (cases_lt (turn w c) n) [
          | inl k ↦ f c h k
          | inr k ↦ q c h k l
        ]
    cell_on w q (Some a) f = record { holds = f.holds; before = omega (arith, f.before); lowest = f.lowest }

    alone_on : (w : ℕ) → Quiet w → Alone R S s n w → Alone R S s m w
    alone_on w q f c d hc hd lc ld =
        elim (cases_lt (turn w c) n) [
          | inl kc ↦
              elim (cases_lt (turn w d) n) [
                | inl kd ↦ f c d hc hd kc kd
                | inr kd ↦ absurd (q d hd kd ld)
              ]
          | inr kc ↦ absurd (q c hc kc lc)
        ]

    conflict_on : ((w : ℕ) → Quiet w) → (k : Option Conflict) → ConflictUpto R S s n k → ConflictUpto R S s m k
    conflict_on q None f = λ w. alone_on w (q w) (f w)
    conflict_on q (Some k) f = record { first = f.first; second = f.second; order = f.order; least = f.least; lower = λ w l. alone_on w (q w) (f.lower w l) }

    pub row_on : (row : Row) → ((w : ℕ) → Quiet w) → RowUpto R S s n row → RowUpto R S s m row
    row_on row q f = record { size = f.size; cells = λ w l. cell_on w (q w) (get_or row.cells w None) (f.cells w l); conflict = conflict_on q row.conflict f.conflict }

  -- The turn of the rule r at the word w.
  module _ (r w : ℕ) (low : 1 ≤ r) (inside : w < 64) (here : Has R S s w (Reduce r)) where
    abbrev now : ℕ
    now = 64 * r + w

    -- Only this action has this turn.
    this_word : (v : ℕ) (c : Action) → Has R S s v c → now ≤ turn v c → turn v c < now + 1 → v ≡ w
    this_word v c h k l = omega (arith, word_below v c h)

    this_action : (c : Action) → Has R S s w c → now ≤ turn w c → turn w c < now + 1 → c ≡ Reduce r
    this_action c h k l = of_rank R S c r low (omega arith)

    other_quiet : (v : ℕ) → (v ≡ w → ⊥) → Quiet now (now + 1) (omega arith) v
    other_quiet v ne c h k l = ne (this_word v c h k l)

    other_alone : (v : ℕ) → (v ≡ w → ⊥) → Alone R S s now v → Alone R S s (now + 1) v
    other_alone v ne f = alone_on now (now + 1) (omega arith) v (other_quiet v ne) f

    -- An action of a lower rank had its turn.
    earlier : (c : Action) → rank c < r → turn w c < now
    earlier c l = omega arith

    -- The cell was empty.
    module _ (row : Row) (f : RowUpto R S s now row) (free : (c : Action) → Has R S s w c → turn w c < now → ⊥) where
      only : (c : Action) → Has R S s w c → turn w c < now + 1 → c ≡ Reduce r
      only c h l =
          elim (cases_lt (turn w c) now) [
            | inl k ↦ absurd (free c h k)
            | inr k ↦ this_action c h k l
          ]

      still_alone : (v : ℕ) → Alone R S s now v → Alone R S s (now + 1) v
      still_alone v g =
          elim (cases_eq v w) [
            | inl e ↦ subst (λ u. Alone R S s (now + 1) u) (sym e) (λ c d hc hd lc ld. only c hc lc ∙ sym (only d hd ld))
            | inr ne ↦ other_alone v ne g
          ]

      still_conflict : (k : Option Conflict) → ConflictUpto R S s now k → ConflictUpto R S s (now + 1) k
      still_conflict None g = λ v. still_alone v (g v)
      still_conflict (Some k) g = record { first = g.first; second = g.second; order = g.order; least = g.least; lower = λ v l. still_alone v (g.lower v l) }

      enter_free : RowUpto R S s (now + 1) (entered_by None w r row)
      enter_free = record {
        size = length-set row.cells w (Some (Reduce r)) ∙ f.size;
        cells = λ v l.
            elim (cases_eq v w) [
              | inl e ↦
                  subst (λ u. CellUpto R S s (now + 1) u (get_or (set row.cells w (Some (Reduce r))) u None)) (sym e)
                  (subst (λ o. CellUpto R S s (now + 1) w o) (sym (get_or-set_same row.cells w (Some (Reduce r)) None (omega (arith, f.size))))
                  (record { holds = here; before = omega arith; lowest = λ c h k. free c h (earlier c k) }))
              | inr ne ↦
                  subst (λ o. CellUpto R S s (now + 1) v o) (sym (get_or-set_other row.cells w v (Some (Reduce r)) None ne))
                  (cell_on now (now + 1) (omega arith) v (other_quiet v ne) (get_or row.cells v None) (f.cells v l))
            ];
        conflict = still_conflict row.conflict f.conflict;
      }

    -- The cell had an action.
    module _ (a : Action) (row : Row) (f : RowUpto R S s now row) (was : get_or row.cells w None ≡ Some a) where
      had : FirstAction R S s now w a
      had = subst (λ o. CellUpto R S s now w o) was (f.cells w inside)

      abbrev noted : Conflict
      noted = record { word = w; first = a; second = Reduce r }

      note : Alone R S s now w → ((v : ℕ) → v < w → Alone R S s now v) → LowestConflict R S s (now + 1) noted
      note g lower = record {
        first = had.holds;
        second = here;
        order = omega (arith, had.before);
        least = λ c h l. g c a h had.holds (earlier c l) had.before;
        lower = λ v l. other_alone v (λ e. omega arith) (lower v l);
      }

      lowest_conflict : (k : Option Conflict) → ConflictUpto R S s now k → ConflictUpto R S s (now + 1) (lowest_of k noted)
      lowest_conflict None g = note (g w) (λ v l. g v)
      lowest_conflict (Some k) g =
          elim (cases_Bool (ltb w k.word)) [
            | inl b ↦
                (let l = ltb-true w k.word b in
                subst (λ o. ConflictUpto R S s (now + 1) o) (sym (cond-true (ltb w k.word) (Some noted) (Some k) b)) (note (g.lower w l) (λ v h. g.lower v (omega arith))))
            | inr b ↦
                (let l = ltb-false w k.word b in
                subst (λ o. ConflictUpto R S s (now + 1) o) (sym (cond-false (ltb w k.word) (Some noted) (Some k) b))
                (record { first = g.first; second = g.second; order = g.order; least = g.least; lower = λ v h. other_alone v (λ e. omega arith) (g.lower v h) }))
          ]

      enter_taken : RowUpto R S s (now + 1) (entered_by (Some a) w r row)
      enter_taken = record {
        size = f.size;
        cells = λ v l.
            elim (cases_eq v w) [
              | inl e ↦
                  subst (λ u. CellUpto R S s (now + 1) u (get_or row.cells u None)) (sym e)
                  (subst (λ o. CellUpto R S s (now + 1) w o) (sym was) (record { holds = had.holds; before = omega (arith, had.before); lowest = had.lowest }))
              | inr ne ↦ cell_on now (now + 1) (omega arith) v (other_quiet v ne) (get_or row.cells v None) (f.cells v l)
            ];
        conflict = lowest_conflict row.conflict f.conflict;
      }

    enter_by : (row : Row) → RowUpto R S s now row → (o : Option Action) → get_or row.cells w None ≡ o → RowUpto R S s (now + 1) (entered_by o w r row)
    enter_by row f None e = enter_free row f (subst (λ o. CellUpto R S s now w o) e (f.cells w inside))
    enter_by row f (Some a) e = enter_taken a row f e

    pub enter : (row : Row) → RowUpto R S s now row → RowUpto R S s (now + 1) (entered w r row)
    enter row f = enter_by row f (get_or row.cells w None) refl
