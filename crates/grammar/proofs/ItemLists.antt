-- What a list of truth values by item number says of the set that it stands for.
use Rattle.std.proofs.Common.{◌≡◌, ℕ, zero, suc, ◌+◌, ◌*◌, ◌/◌, ◌%◌, ◌<◌, ◌≤◌, Bool, true, false, eqb, ltb, List, length, get_or, replicate, sym, refl, ap, ◌∙◌, subst, inl, inr, arith}
use lib.ListN.{length-replicate}
use Rattle.std.proofs.lemmas.List.{ext_get_or, get_or_past, get_or-replicate, get_or-set_other}
use Rattle.std.proofs.lemmas.Bool.{and_parts, and_from, ltb-true, lt-ltb, both_ways, false≢true, cases_lt, cases_eq, eq-eqb}
use Rattle.std.proofs.lemmas.Option.{get_or_from_slice_get}
use Rattle.grammar.specs.Grammar.{Grammar, IsRule, Valid, left_side, right_side}
use Rattle.grammar.specs.Items.{Same, CodeAt, Closure, given, begun, Completes, origin, behind, Move, Waits}
use Rattle.grammar.specs.Outcome.{Within}
use Rattle.grammar.specs.ItemLists.{items_of, In, origin_list, Laid, ClosureAt, CompletesAt, BehindAt, WaitsAt}
use Rattle.grammar.proofs.Agreement.{bool_iff}
use Rattle.grammar.proofs.Completion.{equal_sets, origin_is, moved_from, moved_onto}
use Rattle.grammar.proofs.Codes.{code_read, dot_below}

-- An item of the set is a dot from 0 to 8 and a number in the list.
pub record Held (xs : List Bool) (r d : ℕ) : Type 0 where
  pub dot : d < 9
  pub item : In xs (9 * r + d)

pub held : (xs : List Bool) (r d : ℕ) → items_of xs r d ≡ true → Held xs r d
unfolding items_of
held xs r d h = let p = and_parts (ltb d 9) (get_or xs (9 * r + d) false) h in record { dot = ltb-true d 9 p.0; item = p.1 }

pub is_held : (xs : List Bool) (r d : ℕ) → d < 9 → In xs (9 * r + d) → items_of xs r d ≡ true
unfolding items_of
is_held xs r d l h = and_from (ltb d 9) (get_or xs (9 * r + d) false) (lt-ltb d 9 l) h

-- Every number is that of one item.
by_rule : (i : ℕ) → (i ≡ 9 * (i / 9) + i % 9) × (i % 9 < 9)
by_rule i = (omega arith, omega arith)

pub held_at : (xs : List Bool) (i : ℕ) → In xs i → items_of xs (i / 9) (i % 9) ≡ true
held_at xs i h = let p = by_rule i in is_held xs (i / 9) (i % 9) p.1 (subst (λ k. In xs k) p.0 h)

at_held : (xs : List Bool) (i : ℕ) → items_of xs (i / 9) (i % 9) ≡ true → In xs i
at_held xs i h = let p = by_rule i in subst (λ k. In xs k) (sym p.0) (held xs (i / 9) (i % 9) h).item

-- Lists of one length that stand for the same set are equal.
pub equal_lists : (xs ys : List Bool) → length xs ≡ length ys → Same (items_of xs) (items_of ys) → xs ≡ ys
equal_lists xs ys size same =
    ext_get_or false xs ys size λ i _.
    bool_iff (get_or xs i false) (get_or ys i false)
    (λ h. at_held ys i (sym (same (i / 9) (i % 9)) ∙ held_at xs i h))
    (λ h. at_held xs i (same (i / 9) (i % 9) ∙ held_at ys i h))

-- The list of the origin stands for it.
in_origin : (i : ℕ) → In origin_list i → i ≡ 0
unfolding origin_list
in_origin i h =
    elim (cases_eq i 0) [
      | inl e ↦ e
      | inr ne ↦ absurd (both_ways (get_or (replicate 873 false) i false) (no_item i) (sym (get_or-set_other (replicate 873 false) 0 i true false ne) ∙ h))
    ]
  where
    no_item : (i : ℕ) → get_or (replicate 873 false) i false ≡ false
    no_item i =
        elim (cases_lt i 873) [
          | inl l ↦ get_or-replicate 873 i false false l
          | inr g ↦ get_or_past (replicate 873 false) i false (subst (λ k. k ≤ i) (sym (length-replicate 873 false)) g)
        ]

origin_in : In origin_list 0
unfolding origin_list
origin_in = refl

pub origin_items : items_of origin_list ≡ origin
origin_items =
    equal_sets (items_of origin_list) origin λ r d. bool_iff (items_of origin_list r d) (origin r d) (onto r d) (back r d)
  where
    onto : (r d : ℕ) → items_of origin_list r d ≡ true → origin r d ≡ true
    onto r d h =
        let k = held origin_list r d h in
        let e = in_origin (9 * r + d) k.item in
        and_from (eqb r 0) (eqb d 0) (eq-eqb r 0 (omega arith)) (eq-eqb d 0 (omega arith))

    back : (r d : ℕ) → origin r d ≡ true → items_of origin_list r d ≡ true
    back r d h =
        let p = origin_is r d h in
        is_held origin_list r d (omega (arith, p.1)) (subst (λ i. In origin_list i) (let e : 0 ≡ 9 * r + d = omega (arith, p.0, p.1) in e) origin_in)

module _ (G : Grammar) (V : Valid G) (W : Within G) (lefts codes : List ℕ) (L : Laid G lefts codes) where
  -- The code behind a dot, in the list and in the grammar.
  pub code_of : (r d X : ℕ) → CodeAt G r d X → get_or codes (9 * r + d) 0 ≡ X
  code_of r d X e = L.code r d (omega (arith, dot_below G V W r d X e)) ∙ get_or_from_slice_get (right_side G r) d X 0 e

  pub of_code : (r d X : ℕ) → d < 9 → 1 ≤ X → get_or codes (9 * r + d) 0 ≡ X → CodeAt G r d X
  of_code r d X l low e = code_read (right_side G r) d X low (sym (L.code r d l) ∙ e)

  -- The last dot has no code behind it.
  pub no_code : (i r : ℕ) → i ≡ 9 * r + 8 → 1 ≤ get_or codes i 0 → ⊥
  no_code i r e low =
      let X = get_or codes i 0 in
      let k = dot_below G V W r 8 X (of_code r 8 X (omega arith) low (ap (λ j. get_or codes j 0) (sym e))) in
      omega arith

  -- Completing a list completes its set.
  closure_onto : (xs : List Bool) (r d i : ℕ) → i ≡ 9 * r + d → d < 9 → ClosureAt lefts codes (length G.rules) xs i → Closure G (items_of xs) r d
  closure_onto xs r d i e l (ClosureAt.given h) = given (is_held xs r d l (subst (λ k. In xs k) e h))
  closure_onto xs r d i e l (ClosureAt.begun {i = j} {q = q} k low high c) =
      let p = by_rule j in
      let is_rule : IsRule G q = record { low = low; high = high } in
      let left = L.left q is_rule in
      let a : get_or codes (9 * (j / 9) + j % 9) 0 ≡ left_side G q = subst (λ x. get_or codes x 0 ≡ left_side G q) p.0 (c ∙ left) in
      let b = begun (closure_onto xs (j / 9) (j % 9) j p.0 p.1 k) (of_code (j / 9) (j % 9) (left_side G q) p.1 (omega (arith, (V.lefts q is_rule).low)) a) is_rule in
      let z : q ≡ r = omega arith in
      let o : 0 ≡ d = omega arith in
      subst (λ x. Closure G (items_of xs) r x) o (subst (λ x. Closure G (items_of xs) x 0) z b)

  closure_back : (xs : List Bool) {r d : ℕ} → Closure G (items_of xs) r d → (d < 9) × ClosureAt lefts codes (length G.rules) xs (9 * r + d)
  closure_back xs {r} {d} (given h) = let k = held xs r d h in (k.dot, ClosureAt.given k.item)
  closure_back xs (begun {r = r} {d = d} {q = q} c k i) =
      let w = closure_back xs c in
      let e : get_or codes (9 * r + d) 0 ≡ get_or lefts q 0 = code_of r d (left_side G q) k ∙ sym (L.left q i) in
      (omega arith, subst (λ j. ClosureAt lefts codes (length G.rules) xs j) (let z : 9 * q ≡ 9 * q + 0 = omega arith in z) (ClosureAt.begun w.1 i.low i.high e))

  pub completes_lists : (xs ys : List Bool) → CompletesAt lefts codes (length G.rules) xs ys → Completes G (items_of xs) (items_of ys)
  completes_lists xs ys c =
      record {
        sound = λ r d h. let k = held ys r d h in closure_onto xs r d (9 * r + d) refl k.dot (c.sound (9 * r + d) k.item);
        whole = λ r d h. let w = closure_back xs h in is_held ys r d w.0 (c.whole (9 * r + d) w.1);
      }

  -- Putting dots behind a code in a list does it in its set.
  module _ (xs ys : List Bool) (X : ℕ) (low : 1 ≤ X) (b : BehindAt codes xs X ys) where
    behind_onto : (r d : ℕ) → items_of ys r d ≡ true → behind G (items_of xs) X r d ≡ true
    behind_onto zero zero h = absurd (both_ways (get_or ys 0 false) b.none (held ys 0 0 h).item)
    behind_onto (suc r) zero h =
        let e : 9 * suc r + 0 ≡ (9 * r + 8) + 1 = omega arith in
        let w = b.from (9 * r + 8) (subst (λ i. In ys i) e (held ys (suc r) 0 h).item) in
        absurd (no_code (9 * r + 8) r refl (omega (arith, w.1)))
    behind_onto r (suc d) h =
        let k = held ys r (suc d) h in
        let e : 9 * r + suc d ≡ (9 * r + d) + 1 = omega arith in
        let w = b.from (9 * r + d) (subst (λ i. In ys i) e k.item) in
        let l : d < 9 = omega (arith, k.dot) in
        moved_onto G (items_of xs) X r d (is_held xs r d l w.0) (of_code r d X l low w.1)

    behind_back : (r d : ℕ) → behind G (items_of xs) X r d ≡ true → items_of ys r d ≡ true
    behind_back r zero h = absurd (false≢true h)
    behind_back r (suc d) h =
        let p = moved_from G (items_of xs) X r d h in
        let e : (9 * r + d) + 1 ≡ 9 * r + suc d = omega arith in
        let k = b.onto (9 * r + d) (held xs r d p.0).item (code_of r d X p.1) in
        is_held ys r (suc d) (omega (arith, dot_below G V W r d X p.1)) (subst (λ i. In ys i) e k)

    pub behind_lists : items_of ys ≡ behind G (items_of xs) X
    behind_lists =
        equal_sets (items_of ys) (behind G (items_of xs) X) λ r d. bool_iff (items_of ys r d) (behind G (items_of xs) X r d) (behind_onto r d) (behind_back r d)

  pub move_lists : (xs ms ys : List Bool) (X : ℕ) → 1 ≤ X → BehindAt codes xs X ms → CompletesAt lefts codes (length G.rules) ms ys → Move G (items_of xs) X (items_of ys)
  move_lists xs ms ys X low b c = subst (λ K. Completes G K (items_of ys)) (behind_lists xs ms X low b) (completes_lists ms ys c)

  pub begins_list : (ys : List Bool) → CompletesAt lefts codes (length G.rules) origin_list ys → Completes G origin (items_of ys)
  begins_list ys c = subst (λ K. Completes G K (items_of ys)) origin_items (completes_lists origin_list ys c)

  -- An item waits for a code in a list exactly if one does in its set.
  pub waits_list : (xs : List Bool) (X : ℕ) → 1 ≤ X → WaitsAt codes xs X → Waits G (items_of xs) X
  waits_list xs X low w =
      let i = w.item in
      let p = by_rule i in
      record { rule = i / 9; dot = i % 9; has = held_at xs i w.has; code = of_code (i / 9) (i % 9) X p.1 low (subst (λ k. get_or codes k 0 ≡ X) p.0 w.code) }

  pub list_waits : (xs : List Bool) (X : ℕ) → Waits G (items_of xs) X → WaitsAt codes xs X
  list_waits xs X w =
      record { item = 9 * w.rule + w.dot; has = (held xs w.rule w.dot w.has).item; code = code_of w.rule w.dot X w.code }
