-- The codes in right sides.
use Rattle.std.proofs.Common.{◌≡◌, ℕ, zero, suc, ◌<◌, ◌≤◌, ◌⊎◌, List, length, get_or, ap, subst, inl, inr, arith, Some, slice_get, ◌∙◌, ◌+◌}
use Rattle.std.proofs.lemmas.List.{get_or_past}
use Rattle.std.proofs.lemmas.Bool.{cases_lt}
use Rattle.std.proofs.lemmas.Option.{none-some, slice_get-get_or, slice_get_within, get_or_from_slice_get}
use Rattle.std.proofs.lemmas.List.Elements.{All-get_or, All-from_get_or}
use Rattle.grammar.specs.Grammar.{Grammar, IsRule, IsSymbol, AllCodes, Valid, start, no_rule, right_side}
use Rattle.grammar.specs.Items.{CodeAt}
use Rattle.grammar.specs.Outcome.{Within, InRange}
use Rattle.grammar.specs.StateLists.{IsCode}

-- A grammar within its limits, with all codes in range, is valid.
pub valid : (G : Grammar) → Within G → ((r : ℕ) → IsRule G r → InRange G r) → Valid G
valid G w all = record { some_nonterminal = w.counts.some_nonterminal; lefts = λ r i. (all r i).left; rights = λ r i. (all r i).right }

-- A code that is read, and not 0, stands at its place.
pub code_read : (l : List ℕ) (d X : ℕ) → 1 ≤ X → get_or l d 0 ≡ X → slice_get l d ≡ Some X
code_read l d X h e =
    elim (cases_lt d (length l)) [
      | inl b ↦ slice_get-get_or l d 0 b ∙ ap Some e
      | inr b ↦ absurd (omega (arith, get_or_past l d 0 b))
    ]

module _ (G : Grammar) where
  -- The codes from 1 to T + N are the terminals and the nonterminals.
  pub symbol_range : {X : ℕ} → IsSymbol G X → IsCode G X
  symbol_range (inl h) = record { low = h.low; high = omega (arith, h.high) }
  symbol_range (inr h) = record { low = omega (arith, h.low); high = h.high }

  pub symbol_from : (X : ℕ) → 1 ≤ X → X ≤ G.terminals + G.nonterminals → IsSymbol G X
  symbol_from X low high =
      elim (cases_lt G.terminals X) [ inl b ↦ inr (record { low = b; high = high }) | inr b ↦ inl (record { low = low; high = b }) ]

  pub all_codes : (l : List ℕ) (d : ℕ) → AllCodes G l → d < length l → IsCode G (get_or l d 0)
  all_codes l d all h = symbol_range (All-get_or (IsSymbol G) l d 0 h all)

  pub each_code : (l : List ℕ) → ((d : ℕ) → d < length l → (1 ≤ get_or l d 0) × (get_or l d 0 ≤ G.terminals + G.nonterminals)) → AllCodes G l
  each_code l h = All-from_get_or (IsSymbol G) l 0 (λ d b. symbol_from (get_or l d 0) (h d b).0 (h d b).1)

  -- What a code behind a dot says of the rule: it is rule 0, or one of the grammar.
  pub rule_of : (r d X : ℕ) → CodeAt G r d X → (r ≡ 0) ⊎ IsRule G r
  unfolding right_side no_rule
  rule_of zero d X e = inl (omega arith)
  rule_of (suc i) d X e =
      elim (cases_lt i (length G.rules)) [
        | inl l ↦ inr (record { low = omega arith; high = omega arith })
        | inr g ↦ absurd (none-some X (subst (λ u. slice_get u.right d ≡ Some X) (get_or_past G.rules i no_rule g) e))
      ]

  first_code : Valid G → (d X : ℕ) → CodeAt G 0 d X → (d ≡ 0) × IsCode G X
  unfolding right_side start
  first_code V zero X e = let h : suc G.terminals ≡ X = cc in (omega arith, record { low = omega arith; high = omega (arith, V.some_nonterminal) })
  first_code V (suc d) X e = cc

  pub code_in_range : Valid G → (r d X : ℕ) → CodeAt G r d X → IsCode G X
  code_in_range V r d X e =
      elim (rule_of r d X e) [
        | inl z ↦ (first_code V d X (subst (λ q. CodeAt G q d X) z e)).1
        | inr i ↦ subst (IsCode G) (get_or_from_slice_get (right_side G r) d X 0 e) (all_codes (right_side G r) d (V.rights r i) (slice_get_within (right_side G r) d X e))
      ]

  -- A dot before a code is one of eight.
  pub dot_below : Valid G → Within G → (r d X : ℕ) → CodeAt G r d X → d < 8
  dot_below V w r d X e =
      elim (rule_of r d X e) [
        | inl z ↦ omega (arith, (first_code V d X (subst (λ q. CodeAt G q d X) z e)).0)
        | inr i ↦ omega (arith, slice_get_within (right_side G r) d X e, w.right_sides r i)
      ]
