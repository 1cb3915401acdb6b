-- What a packed list tells of a rule, read by its contents.
use Rattle.std.proofs.Common.{◌≡◌, ℕ, zero, suc, ◌+◌, ◌<◌, ◌≤◌, min, List, length, get_or, drop, Some, None, sym, refl, ap, ◌∙◌, arith}
use Rattle.std.specs.List.{slice_get}
use Rattle.std.proofs.lemmas.List.{length-take, length-drop}
use Rattle.std.proofs.lemmas.Option.{slice_get-get_or, slice_get_past}
use Rattle.std.proofs.lemmas.List.FromFn.{length-map-range_with_len, get_or-map-range_with_len}
use Rattle.sheet.specs.Readings.{rule_told}
use Rattle.sheet.specs.Packing.{Lies, BodyAt, ends, rule_from, stated, unpacked}

module _ (ns : List ℕ) where
  pub rules_length : length (unpacked ns).rules ≡ stated ns
  rules_length = length-map-range_with_len (λ r. rule_from ns (get_or ns (3 + r) 0)) 0 (stated ns)

  pub rule_is : (r : ℕ) → r < stated ns → slice_get (unpacked ns).rules r ≡ Some (rule_from ns (get_or ns (3 + r) 0))
  rule_is r h =
      let long = rules_length in
      slice_get-get_or (unpacked ns).rules r (rule_from ns 0) (omega arith)
      ∙ ap Some (get_or-map-range_with_len (λ r. rule_from ns (get_or ns (3 + r) 0)) 0 (stated ns) r r (rule_from ns 0) h (omega arith))

  pub no_rule_past : (rule : ℕ) → (0 < rule → stated ns < rule) → rule_told (unpacked ns) rule ≡ None
  no_rule_past zero h = refl
  no_rule_past (suc r) h = let long = rules_length in let far = h (omega arith) in slice_get_past (unpacked ns).rules r (omega arith)

-- the codes of a body that is all there
pub codes_length : (ns : List ℕ) (at : ℕ) → at + 2 + get_or ns (at + 1) 0 ≤ length ns → length (rule_from ns at).right ≡ get_or ns (at + 1) 0
codes_length ns at there = length-take (get_or ns (at + 1) 0) (drop (at + 2) ns) ∙ ap (min (get_or ns (at + 1) 0)) (length-drop (at + 2) ns) ∙ omega arith

pub body_at : (ns : List ℕ) → ((r : ℕ) → r < stated ns → Lies ns r) → (rule : ℕ) → 0 < rule → rule ≤ stated ns → BodyAt ns rule (get_or ns (2 + rule) 0)
body_at ns lies zero low high = absurd (omega arith)
body_at ns lies (suc r) low high =
    let one : 3 + r ≡ 2 + suc r = omega arith in
    let l : Lies ns r = lies r (omega arith) in
    let at : get_or ns (2 + suc r) 0 ≡ ends ns r = ap (λ p. get_or ns p 0) (sym one) ∙ l.0 in
    let far : get_or ns (get_or ns (2 + suc r) 0 + 1) 0 ≡ get_or ns (ends ns r + 1) 0 = ap (λ p. get_or ns (p + 1) 0) at in
    record { there = omega arith; told = rule_is ns r (omega arith) ∙ ap (λ p. Some (rule_from ns (get_or ns p 0))) one }
