-- A sheet that is read whole: what its arrays keep, and the grammar that they stand for.
use Rattle.std.proofs.Common.{◌≡◌, ℕ, zero, suc, ◌+◌, ◌*◌, ◌/◌, ◌%◌, ◌<◌, ◌≤◌, List, length, get_or, set, replicate, sym, refl, ap, ◌∙◌, subst, inl, inr, rules, arith, length-drop, length-set, length-take}
use lib.ListN.{length-replicate}
use borrow.Rule.Slice.PartMut.{put_mid, same_len_mid}
use Rattle.std.proofs.lemmas.List.{places, ext_get_or, get_or_past, get_or-set_same, get_or-set_other}
use Rattle.std.proofs.lemmas.Bool.{cases_lt, cases_eq}
use Rattle.grammar.specs.Grammar.{AllCodes, Grammar, Rule, IsNonterminal, start, no_rule, left_side, right_side}
use Rattle.grammar.specs.Outcome.{Within, InRange, LowestOutOfRange}
use Rattle.grammar.specs.StateLists.{IsCode}
use Rattle.tables.specs.declared.rules.Rules.{Rules}
use Rattle.tables.specs.Arrays.{grammar_of}
use Rattle.tables.specs.SheetArrays.{Lengths, Sides}
use Rattle.tables.proofs.Replicas.{replicate_at}
use Rattle.tables.proofs.RuleArrays.{rules_count, right_length, right_code, left_is, is_rule_lem, terminals_is, nonterminals_is}
use Rattle.grammar.proofs.Codes.{all_codes}
use Rattle.tables.proofs.SheetArrays.{first_length}

-- What a list holds after a part of it, k elements from the a-th on, was written.
module _ (a k : ℕ) (xs ys : List ℕ) (fits : a + k ≤ length xs) where
  put_below : (i : ℕ) → i < a → get_or (put_mid a k xs ys) i 0 ≡ get_or xs i 0
  put_below i h = search (rules, places)

  module _ (long : length ys ≡ k) where
    put_length : length (put_mid a k xs ys) ≡ length xs
    put_length = same_len_mid a k xs ys (long ∙ sym (simp (length-take, length-drop) (omega arith)))

    put_at : (d : ℕ) → d < k → get_or (put_mid a k xs ys) (a + d) 0 ≡ get_or ys d 0
    put_at d h = search (rules, places)

    put_above : (i : ℕ) → a + k ≤ i → get_or (put_mid a k xs ys) i 0 ≡ get_or xs i 0
    put_above i h = search (rules, places)

module _ (G : Grammar) where
  first_code : (d : ℕ) → get_or (right_side G 0) (suc d) 0 ≡ 0
  unfolding right_side
  first_code d = refl

  start_code : get_or (right_side G 0) 0 0 ≡ suc G.terminals
  unfolding right_side start
  start_code = refl

  left_first : left_side G 0 ≡ 0
  unfolding left_side
  left_first = refl

  -- Both sides, rule by rule.
  pub sides_first : (t : ℕ) → t ≡ G.terminals → Sides G 1 (replicate 97 0) (set (replicate 873 0) 0 (t + 1))
  sides_first t is =
      record {
        left_places = length-replicate {A = ℕ} 97 0;
        right_places = length-set {A = ℕ} (replicate 873 0) 0 (t + 1) ∙ length-replicate {A = ℕ} 873 0;
        lefts = λ r h. subst (λ q. get_or (replicate 97 0) q 0 ≡ left_side G q) (let e : 0 ≡ r = omega arith in e) (replicate_at 0 97 0 ∙ sym left_first);
        lefts_rest = λ r h. replicate_at 0 97 r;
        codes = λ r d h l. subst (λ q. get_or (set (replicate 873 0) 0 (t + 1)) (9 * q + d) 0 ≡ get_or (right_side G q) d 0) (let e : 0 ≡ r = omega arith in e) (first d);
        codes_rest = λ i h. rest i (omega arith);
        in_range = λ r low h. absurd (omega arith);
      }
    where
      rest : (i : ℕ) → 1 ≤ i → ◌≡◌ {A = ℕ} (get_or (set (replicate 873 0) 0 (t + 1)) i 0) 0
      rest i h = get_or-set_other {A = ℕ} (replicate 873 0) 0 i (t + 1) 0 (λ e. omega arith) ∙ replicate_at 0 873 i

      first : (d : ℕ) → get_or (set (replicate 873 0) 0 (t + 1)) (9 * 0 + d) 0 ≡ get_or (right_side G 0) d 0
      first zero = get_or-set_same {A = ℕ} (replicate 873 0) 0 (t + 1) 0 (omega (arith, length-replicate {A = ℕ} 873 0)) ∙ (let e : t + 1 ≡ suc G.terminals = omega arith in e) ∙ sym start_code
      first (suc d) = rest (9 * 0 + suc d) (omega arith) ∙ sym (first_code d)

  module _ (n x k : ℕ) (left right ys : List ℕ) (f : Sides G n left right) (low : 1 ≤ n) (room : n ≤ 96) (is : x ≡ left_side G n) (side : IsNonterminal G x) (short : k ≤ 8) (long : k ≡ length (right_side G n)) (same : ys ≡ right_side G n) (all : AllCodes G (right_side G n)) where
    abbrev after : List ℕ
    after = put_mid (9 * n) k right ys

    fits : 9 * n + k ≤ length right
    fits = omega (arith, f.right_places)

    codes_more : (r d : ℕ) → r < n + 1 → d < 9 → get_or after (9 * r + d) 0 ≡ get_or (right_side G r) d 0
    codes_more r d h l =
        elim (cases_eq r n) [
          | inl e ↦ subst (λ q. get_or after (9 * q + d) 0 ≡ get_or (right_side G q) d 0) (sym e) (elim (cases_lt d k) [
            | inl b ↦ put_at (9 * n) k right ys fits (ap length same ∙ sym long) d b ∙ ap (λ l. get_or l d 0) same
            | inr b ↦ put_above (9 * n) k right ys fits (ap length same ∙ sym long) (9 * n + d) (omega arith) ∙ f.codes_rest (9 * n + d) (omega arith) ∙ sym (get_or_past (right_side G n) d 0 (omega arith))
          ])
          | inr ne ↦ put_below (9 * n) k right ys fits (9 * r + d) (omega arith) ∙ f.codes r d (omega arith) l
        ]

    pub sides_more : Sides G (n + 1) (set left n x) after
    sides_more =
        record {
          left_places = length-set left n x ∙ f.left_places;
          right_places = put_length (9 * n) k right ys fits (ap length same ∙ sym long) ∙ f.right_places;
          lefts = λ r h. elim (cases_eq r n) [
            | inl e ↦ subst (λ q. get_or (set left n x) q 0 ≡ left_side G q) (sym e) (get_or-set_same left n x 0 (omega (arith, f.left_places)) ∙ is)
            | inr ne ↦ get_or-set_other left n r x 0 ne ∙ f.lefts r (omega arith)
          ];
          lefts_rest = λ r h. get_or-set_other left n r x 0 (λ e. omega arith) ∙ f.lefts_rest r (omega arith);
          codes = codes_more;
          codes_rest = λ i h. put_above (9 * n) k right ys fits (ap length same ∙ sym long) i (omega arith) ∙ f.codes_rest i (omega arith);
          in_range = λ r k h. elim (cases_eq r n) [ inl e ↦ subst (λ q. InRange G q) (sym e) (record { left = subst (λ y. IsNonterminal G y) is side; right = all }) | inr ne ↦ f.in_range r k (omega arith) ];
        }

  pub lowest : (r : ℕ) (left right : List ℕ) → Sides G r left right → 1 ≤ r → r ≤ length G.rules → (InRange G r → ⊥) → LowestOutOfRange G r
  lowest r left right f low high out =
      record { is_rule = record { low = low; high = high }; out = out; lower = λ q i h. f.in_range q i.low h }

  first_only : (d : ℕ) → suc d < length (right_side G 0) → ⊥
  unfolding right_side
  first_only d h = omega arith

  -- A code of a right side, that of rule 0 too, is from 1 to T + N.
  code_range : Within G → (r d : ℕ) → (1 ≤ r → InRange G r) → d < length (right_side G r) → IsCode G (get_or (right_side G r) d 0)
  code_range W zero zero all h =
      subst (λ X. IsCode G X) (sym start_code) (record { low = omega arith; high = omega (arith, W.counts.some_nonterminal) })
  code_range W zero (suc d) all h = absurd (first_only d h)
  code_range W (suc r) d all h = all_codes G (right_side G (suc r)) d (all (omega arith)).right h

-- What the arrays of all rules keep.
pub record Kept (t k p : ℕ) (size left right : List ℕ) : Type 0 where
  pub short : (r : ℕ) → get_or size r 0 ≤ 8
  pub lefts : (r : ℕ) → 1 ≤ r → r ≤ p → t < get_or left r 0
  pub leftsbelow : (r : ℕ) → get_or left r 0 ≤ t + k
  pub inside : (r d : ℕ) → r ≤ p → d < get_or size r 0 → 1 ≤ get_or right (9 * r + d) 0
  pub ended : (r d : ℕ) → get_or size r 0 ≤ d → d < 9 → get_or right (9 * r + d) 0 ≤ 0
  pub past : (r : ℕ) → p < r → get_or size r 0 ≡ 0
  pub below : (i : ℕ) → get_or right i 0 ≤ t + k
  pub firstsize : get_or size 0 0 ≡ 1
  pub firstcode : get_or right 0 0 ≡ t + 1

module _ (G : Grammar) (W : Within G) (t k p : ℕ) (terminals : t ≡ G.terminals) (nonterminals : k ≡ G.nonterminals) (count : p ≡ length G.rules) (size left right : List ℕ) (m : Lengths G (suc p) size) (f : Sides G (suc p) left right) where
  kept_short : (r : ℕ) → get_or size r 0 ≤ 8
  kept_short r = elim (cases_lt r (suc p)) [ inl h ↦ m.short r h | inr h ↦ omega (arith, m.rest r h) ]

  kept_lefts : (r : ℕ) → 1 ≤ r → r ≤ p → t < get_or left r 0
  kept_lefts r low h = omega (arith, f.lefts r (omega arith), (f.in_range r low (omega arith)).left.low)

  kept_leftsbelow : (r : ℕ) → get_or left r 0 ≤ t + k
  kept_leftsbelow r =
      elim (cases_lt r (suc p)) [
        | inl h ↦ elim (cases_eq r 0) [
          | inl e ↦ omega (arith, f.lefts r h, ap (left_side G) e, left_first G)
          | inr ne ↦ omega (arith, f.lefts r h, (f.in_range r (omega arith) h).left.high)
        ]
        | inr h ↦ omega (arith, f.lefts_rest r h)
      ]

  code_in : (r d : ℕ) → r < suc p → d < length (right_side G r) → IsCode G (get_or (right_side G r) d 0)
  code_in r d h l = code_range G W r d (λ low. f.in_range r low h) l

  kept_inside : (r d : ℕ) → r ≤ p → d < get_or size r 0 → 1 ≤ get_or right (9 * r + d) 0
  kept_inside r d h l =
      let b : r < suc p = omega arith in
      omega (arith, f.codes r d b (omega (arith, m.short r b)), (code_in r d b (omega (arith, m.below r b))).low)

  kept_ended : (r d : ℕ) → get_or size r 0 ≤ d → d < 9 → get_or right (9 * r + d) 0 ≤ 0
  kept_ended r d h l =
      elim (cases_lt r (suc p)) [
        | inl b ↦ omega (arith, f.codes r d b l, get_or_past (right_side G r) d 0 (omega (arith, m.below r b)))
        | inr b ↦ omega (arith, f.codes_rest (9 * r + d) (omega arith))
      ]

  kept_past : (r : ℕ) → p < r → get_or size r 0 ≡ 0
  kept_past r h = m.rest r (omega arith)

  below_at : (r d : ℕ) → r < suc p → get_or (right_side G r) d 0 ≤ t + k
  below_at r d h =
      elim (cases_lt d (length (right_side G r))) [
        | inl l ↦ omega (arith, (code_in r d h l).high)
        | inr l ↦ omega (arith, get_or_past (right_side G r) d 0 l)
      ]

  kept_below : (i : ℕ) → get_or right i 0 ≤ t + k
  kept_below i =
      elim (cases_lt i (9 * suc p)) [
        | inl h ↦
            (let e : 9 * (i / 9) + i % 9 ≡ i = omega arith in
            let b : i / 9 < suc p = omega arith in
            subst (λ j. get_or right j 0 ≤ t + k) e (omega (arith, f.codes (i / 9) (i % 9) b (omega arith), below_at (i / 9) (i % 9) b)))
        | inr h ↦ omega (arith, f.codes_rest i h)
      ]

  kept_firstsize : get_or size 0 0 ≡ 1
  kept_firstsize = m.below 0 (omega arith) ∙ first_length G

  kept_firstcode : get_or right 0 0 ≡ t + 1
  kept_firstcode = f.codes 0 0 (omega arith) (omega arith) ∙ start_code G ∙ omega arith

  pub kept : Kept t k p size left right
  kept =
      record {
        short = kept_short;
        lefts = kept_lefts;
        leftsbelow = kept_leftsbelow;
        inside = kept_inside;
        ended = kept_ended;
        past = kept_past;
        below = kept_below;
        firstsize = kept_firstsize;
        firstcode = kept_firstcode;
      }

-- Rules are equal if their parts are.
same_rule : (a b : Rule) → a.left ≡ b.left → a.right ≡ b.right → a ≡ b
same_rule a b p q i = record { left = p i; right = q i }

-- The rules that are read stand for the grammar.
module _ (G : Grammar) (R : Rules) (terminals : R.terminals ≡ G.terminals) (nonterminals : R.nonterminals ≡ G.nonterminals) (count : R.count ≡ length G.rules) (m : Lengths G (suc R.count) R.size) (f : Sides G (suc R.count) R.left R.right) where
  same_left : (i : ℕ) → i < R.count → (get_or (grammar_of R).rules i no_rule).left ≡ (get_or G.rules i no_rule).left
  unfolding left_side
  same_left i h = sym (left_is R (suc i) (is_rule_lem R (suc i) (omega arith) (omega arith))) ∙ f.lefts (suc i) (omega arith)

  same_right : (i : ℕ) → i < R.count → (get_or (grammar_of R).rules i no_rule).right ≡ (get_or G.rules i no_rule).right
  unfolding right_side
  same_right i h =
      ext_get_or 0 (right_side (grammar_of R) (suc i)) (right_side G (suc i)) long λ d l.
      let b : d < 9 = omega (arith, right_length R (suc i) (omega arith), R.short (suc i)) in
      sym (right_code R (suc i) d b) ∙ f.codes (suc i) d (omega arith) b
    where
      long : length (right_side (grammar_of R) (suc i)) ≡ length (right_side G (suc i))
      long = right_length R (suc i) (omega arith) ∙ m.below (suc i) (omega arith)

  same_rules : (grammar_of R).rules ≡ G.rules
  same_rules =
      ext_get_or no_rule (grammar_of R).rules G.rules (rules_count R ∙ count) λ i h.
      let b : i < R.count = omega (arith, rules_count R) in
      same_rule (get_or (grammar_of R).rules i no_rule) (get_or G.rules i no_rule) (same_left i b) (same_right i b)

  pub read_grammar : grammar_of R ≡ G
  read_grammar i = record { terminals = (terminals_is R ∙ terminals) i; nonterminals = (nonterminals_is R ∙ nonterminals) i; rules = same_rules i }
