-- The rules of a supplement, by their numbers.
use Rattle.std.proofs.Common.{◌≡◌, ℕ, zero, suc, ◌+◌, ◌-◌, ◌<◌, ◌≤◌, List, [], ◌∷◌, ◌++◌, map, length, take, Option, option_map, MatchOption, None, Some, sym, refl, ap, ◌∙◌, arith}
use native.Mathlib.Decide.{dec_le}
use Rattle.std.specs.List.{slice_get}
use Rattle.std.proofs.lemmas.List.{length-append, length-take}
use Rattle.std.proofs.lemmas.Option.{slice_get_past, slice_get-map}
use Rattle.grammar.specs.Grammar.{Grammar, Rule}
use Rattle.sheet.specs.Readings.{rule_told}
use Rattle.sheet.specs.ShortRules.{rule_of}
use Rattle.sheet.specs.Supplements.{with_rules}
use Rattle.sheet.specs.declared.short_rule.ShortRule.{ShortRule}

nth_left : {X : Type 0} (xs ys : List X) (k : ℕ) → k < length xs → slice_get (xs ++ ys) k ≡ slice_get xs k
nth_left [] ys k h = absurd (omega arith)
nth_left (x ∷ xs) ys zero h = refl
nth_left (x ∷ xs) ys (suc k) h = nth_left xs ys k (omega arith)

nth_right : {X : Type 0} (xs ys : List X) (k j : ℕ) → length xs + j ≡ k → slice_get (xs ++ ys) k ≡ slice_get ys j
nth_right [] ys k j e = let same : k ≡ j = omega arith in ap (slice_get ys) same
nth_right (x ∷ xs) ys zero j e = absurd (omega arith)
nth_right (x ∷ xs) ys (suc k) j e = nth_right xs ys k j (omega arith)

nth_take : {X : Type 0} (n : ℕ) (xs : List X) (i : ℕ) → i < n → slice_get (take n xs) i ≡ slice_get xs i
nth_take zero xs i h = absurd (omega arith)
nth_take (suc n) [] i h = refl
nth_take (suc n) (x ∷ xs) zero h = refl
nth_take (suc n) (x ∷ xs) (suc i) h = nth_take n xs i (omega arith)

module _ (G : Grammar) (own : List Rule) where
  none_below : (rule : ℕ) → length G.rules < rule → rule_told G rule ≡ None
  none_below zero h = refl
  none_below (suc k) h = slice_get_past G.rules k (omega arith)

  -- the rules below keep their numbers, and none stands past 96
  pub told_below : (rule : ℕ) → (rule ≤ 96 → rule ≤ length G.rules) → rule_told (with_rules G own) rule ≡ rule_told G rule
  told_below zero h = refl
  told_below (suc k) h =
      let long = length-append G.rules (take (96 - length G.rules) own) in
      let cut = length-take (96 - length G.rules) own in
      elim (dec_le (suc k) (length G.rules)) [
        | yes low ↦ nth_left G.rules (take (96 - length G.rules) own) k (omega arith)
        | no high ↦ slice_get_past (with_rules G own).rules k (elim (dec_le (suc k) 96) [ yes inside ↦ absurd (high (h inside)) | no past ↦ omega arith ]) ∙ sym (none_below (suc k) (omega arith))
      ]

  -- the others follow in order
  told_behind : (rule i : ℕ) → length G.rules + i + 1 ≡ rule → rule ≤ 96 → (rule_told (with_rules G own) rule ≡ slice_get own i) × (rule_told G rule ≡ None)
  told_behind zero i e low = absurd (omega arith)
  told_behind (suc k) i e low = (nth_right G.rules (take (96 - length G.rules) own) k i (omega arith) ∙ nth_take (96 - length G.rules) own i (omega arith), none_below (suc k) (omega arith))

pub own_told : (G : Grammar) (own : List ShortRule) (rule i : ℕ) (o : Option ShortRule) → length G.rules + i + 1 ≡ rule → rule ≤ 96 → o ≡ slice_get own i
    → MatchOption o (rule_told (with_rules G (map rule_of own)) rule ≡ rule_told G rule) (λ r. rule_told (with_rules G (map rule_of own)) rule ≡ Some (rule_of r))
own_told G own rule i None e low is = let behind = told_behind G (map rule_of own) rule i e low in behind.0 ∙ slice_get-map rule_of own i ∙ ap (option_map rule_of) (sym is) ∙ sym behind.1
own_told G own rule i (Some r) e low is = (told_behind G (map rule_of own) rule i e low).0 ∙ slice_get-map rule_of own i ∙ ap (option_map rule_of) (sym is)
