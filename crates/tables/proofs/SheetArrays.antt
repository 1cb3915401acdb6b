-- The steps of reading a sheet into arrays.
use Rattle.std.proofs.Common.{◌≡◌, ℕ, zero, suc, ◌+◌, ◌<◌, ◌≤◌, List, [], ◌∷◌, length, get_or, set, replicate, Option, Some, None, sym, refl, ap, ◌∙◌, subst, inl, inr, arith, length-set}
use lib.ListN.{length-replicate}
use Rattle.std.specs.List.{slice_get}
use Rattle.std.specs.Option.{unwrap_or}
use Rattle.std.proofs.lemmas.List.{get_or-set_same, get_or-set_other}
use Rattle.std.proofs.lemmas.Bool.{cases_eq}
use Rattle.grammar.specs.Grammar.{Grammar, Rule, AllCodes, no_rule, left_side, right_side}
use Rattle.grammar.specs.Outcome.{Within}
use Rattle.grammar.proofs.Codes.{all_codes}
use Rattle.sheet.specs.Readings.{left_of, length_of, code_of, left_told, length_told, code_told}
use Rattle.tables.specs.SheetArrays.{Lengths}
use Rattle.tables.proofs.Replicas.{replicate_at}

left_at : (rules : List Rule) (i : ℕ) → unwrap_or (left_of (slice_get rules i)) 0 ≡ (get_or rules i no_rule).left
unfolding no_rule
left_at [] i = refl
left_at (x ∷ rules) zero = refl
left_at (x ∷ rules) (suc i) = left_at rules i

length_at : (rules : List Rule) (i : ℕ) → unwrap_or (length_of (slice_get rules i)) 0 ≡ length (get_or rules i no_rule).right
unfolding no_rule
length_at [] i = refl
length_at (x ∷ rules) zero = refl
length_at (x ∷ rules) (suc i) = length_at rules i

place_at : (codes : List ℕ) (d : ℕ) → unwrap_or (slice_get codes d) 0 ≡ get_or codes d 0
place_at [] d = refl
place_at (x ∷ codes) zero = refl
place_at (x ∷ codes) (suc d) = place_at codes d

code_at : (rules : List Rule) (i d : ℕ) → unwrap_or (code_of (slice_get rules i) d) 0 ≡ get_or (get_or rules i no_rule).right d 0
unfolding no_rule
code_at [] i d = refl
code_at (x ∷ rules) zero d = place_at x.right d
code_at (x ∷ rules) (suc i) d = code_at rules i d

abbrev or_0 : Option ℕ → ℕ
or_0 o = unwrap_or o 0

module _ (G : Grammar) where
  -- A reading of a sheet is what the grammar has.
  pub left_read :
      (r x : ℕ) (o : Option ℕ)
      → 1 ≤ r
      → o ≡ Some x
      → o ≡ left_told G r
      → x ≡ left_side G r
  unfolding left_side
  left_read zero x o h p q = absurd (omega arith)
  left_read (suc i) x o h p q = ap or_0 (sym p ∙ q) ∙ left_at G.rules i

  pub length_read :
      (r x : ℕ) (o : Option ℕ)
      → 1 ≤ r
      → o ≡ Some x
      → o ≡ length_told G r
      → x ≡ length (right_side G r)
  unfolding right_side
  length_read zero x o h p q = absurd (omega arith)
  length_read (suc i) x o h p q = ap or_0 (sym p ∙ q) ∙ length_at G.rules i

  -- A code that is not told counts as 0, which is no code.
  code_or_0 :
      (r d : ℕ) (o : Option ℕ)
      → 1 ≤ r
      → o ≡ code_told G r d
      → or_0 o ≡ get_or (right_side G r) d 0
  unfolding right_side
  code_or_0 zero d o h q = absurd (omega arith)
  code_or_0 (suc i) d o h q = ap or_0 q ∙ code_at G.rules i d

  pub code_read :
      (r d x : ℕ) (o : Option ℕ)
      → 1 ≤ r
      → o ≡ Some x
      → o ≡ code_told G r d
      → x ≡ get_or (right_side G r) d 0
  code_read r d x o h p q = sym (ap or_0 p) ∙ code_or_0 r d o h q

  pub code_missing :
      (r d : ℕ) (o : Option ℕ)
      → 1 ≤ r
      → o ≡ None
      → o ≡ code_told G r d
      → 0 ≡ get_or (right_side G r) d 0
  code_missing r d o h p q = sym (ap or_0 p) ∙ code_or_0 r d o h q

  pub first_length : length (right_side G 0) ≡ 1
  unfolding right_side
  first_length = refl

  -- The lengths, rule by rule.
  pub lengths_first : Lengths G 1 (set (replicate 97 0) 0 1)
  lengths_first =
      record {
        places = length-set {A = ℕ} (replicate 97 0) 0 1 ∙ length-replicate {A = ℕ} 97 0;
        below = λ r h. subst (λ q. get_or (set (replicate 97 0) 0 1) q 0 ≡ length (right_side G q)) (let e : 0 ≡ r = omega arith in e) (here ∙ sym first_length);
        short = λ r h. subst (λ q. get_or (set (replicate 97 0) 0 1) q 0 ≤ 8) (let e : 0 ≡ r = omega arith in e) (omega (arith, here));
        rest = λ r h. get_or-set_other {A = ℕ} (replicate 97 0) 0 r 1 0 (λ e. omega arith) ∙ replicate_at 0 97 r;
      }
    where
      here : ◌≡◌ {A = ℕ} (get_or (set (replicate 97 0) 0 1) 0 0) 1
      here = get_or-set_same {A = ℕ} (replicate 97 0) 0 1 0 (omega (arith, length-replicate {A = ℕ} 97 0))

  module _ (n x : ℕ) (size : List ℕ) (f : Lengths G n size) (room : n ≤ 96) (is : x ≡ length (right_side G n)) (fits : x ≤ 8) where
    pub lengths_more : Lengths G (n + 1) (set size n x)
    lengths_more =
        record {
          places = length-set size n x ∙ f.places;
          below = λ r h. at r (λ q y. y ≡ length (right_side G q)) f.below is h;
          short = λ r h. at r (λ q y. y ≤ 8) f.short fits h;
          rest = λ r h. get_or-set_other size n r x 0 (λ e. omega arith) ∙ f.rest r (omega arith);
        }
      where
        at : (r : ℕ) (P : ℕ → ℕ → Type 0) → ((q : ℕ) → q < n → P q (get_or size q 0)) → P n x → r < n + 1 → P r (get_or (set size n x) r 0)
        at r P below here h =
            elim (cases_eq r n) [
              | inl e ↦ subst (λ q. P q (get_or (set size n x) q 0)) (sym e) (subst (λ y. P n y) (sym (get_or-set_same size n x 0 (omega (arith, f.places)))) here)
              | inr ne ↦ subst (λ y. P r y) (sym (get_or-set_other size n r x 0 ne)) (below r (omega arith))
            ]

  pub too_long : (r : ℕ) → 1 ≤ r → r ≤ length G.rules → 8 < length (right_side G r) → Within G → ⊥
  too_long r low high long w = omega (arith, w.right_sides r (record { low = low; high = high }))

  pub off_range : (r d x : ℕ) → x ≡ get_or (right_side G r) d 0 → d < length (right_side G r) → (1 ≤ x → x ≤ G.terminals + G.nonterminals → ⊥) → AllCodes G (right_side G r) → ⊥
  off_range r d x is l nay all = let k = all_codes G (right_side G r) d all l in nay (omega (arith, k.low)) (omega (arith, k.high))
