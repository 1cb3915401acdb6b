-- The numbering of states in arrays, by the lemmas on lists, for the grammar of rules in arrays.
use Rattle.std.proofs.Common.{◌≡◌, ℕ, ◌+◌, ◌*◌, ◌<◌, ◌≤◌, Bool, List, [], length, set, sym, refl, ap, ◌∙◌, subst, arith}
use Rattle.std.proofs.lemmas.List.{get_or-set_other}
use Rattle.grammar.specs.Items.{Completes, Move, Waits, origin}
use Rattle.grammar.specs.ItemLists.{items_of, origin_list, CompletesAt, BehindAt, WaitsAt}
use Rattle.grammar.specs.States.{Crowded, Numbered}
use Rattle.grammar.specs.StateLists.{IsCode, state_at, Sofar, Placed, old, new, full, nowhere}
use Rattle.grammar.proofs.ItemLists.{move_lists, begins_list, waits_list, list_waits}
use Rattle.grammar.proofs.StateLists.{numbered_lists}
use Rattle.grammar.proofs.StateSteps.{sofar_start, sofar_entry, sofar_row}
use Rattle.grammar.proofs.Placing.{placed_more, placed_full}
use Rattle.tables.specs.declared.rules.Rules.{Rules}
use Rattle.tables.specs.declared.states.States.{States}
use Rattle.tables.specs.Arrays.{grammar_of, automaton}
use Rattle.tables.proofs.RuleArrays.{laid_rules, valid_rules, within_rules, rules_count, terminals_is, nonterminals_is}

-- Giving a set a number leaves the states before as they are.
pub placed_keeps : {items : List Bool} {n m t : ℕ} {sets tets : List (List Bool)} → Placed items n sets m tets t → (s : ℕ) → s < n → (n ≤ m) × (state_at tets s ≡ state_at sets s)
placed_keeps (old l e) s h = (omega arith, refl)
placed_keeps {items} {n} {m} {t} {sets} (new e room k) s h =
    (omega arith, get_or-set_other sets t s items [] (λ p. omega arith))
placed_keeps (full e k) s h = (omega arith, refl)

module _ (R : Rules) where
  completes_count : (xs ys : List Bool) → CompletesAt R.left R.right R.count xs ys → CompletesAt R.left R.right (length (grammar_of R).rules) xs ys
  completes_count xs ys c = subst (λ n. CompletesAt R.left R.right n xs ys) (sym (rules_count R)) c

  move_arrays : (xs ms ys : List Bool) (X : ℕ) → 1 ≤ X → BehindAt R.right xs X ms → CompletesAt R.left R.right R.count ms ys → Move (grammar_of R) (items_of xs) X (items_of ys)
  move_arrays xs ms ys X low b c =
      move_lists (grammar_of R) (valid_rules R) (within_rules R) R.left R.right (laid_rules R) xs ms ys X low b (completes_count ms ys c)

  waits_array : (xs : List Bool) (X : ℕ) → 1 ≤ X → WaitsAt R.right xs X → Waits (grammar_of R) (items_of xs) X
  waits_array = waits_list (grammar_of R) (valid_rules R) (within_rules R) R.left R.right (laid_rules R)

  array_waits : (xs : List Bool) (X : ℕ) → Waits (grammar_of R) (items_of xs) X → WaitsAt R.right xs X
  array_waits = list_waits (grammar_of R) (valid_rules R) (within_rules R) R.left R.right (laid_rules R)

  pub is_code : (X : ℕ) → 1 ≤ X → X ≤ R.terminals + R.nonterminals → IsCode (grammar_of R) X
  is_code X low high = record { low = low; high = omega (arith, terminals_is R, nonterminals_is R) }

  pub sofar_first : (n : ℕ) (sets : List (List Bool)) (gotos : List ℕ) (items : List Bool) → n ≡ 1 → length sets ≡ 96 → length gotos ≡ 8448 → length items ≡ 873 → state_at sets 0 ≡ items → CompletesAt R.left R.right R.count origin_list items → Sofar (grammar_of R) n sets gotos 0 1
  sofar_first n sets gotos items one a b size e c =
      subst (λ k. Sofar (grammar_of R) k sets gotos 0 1) (sym one)
      (sofar_start (grammar_of R) (within_rules R) sets gotos a b (ap length e ∙ size)
      (subst (λ x. Completes (grammar_of R) origin (items_of x)) (sym e) (begins_list (grammar_of R) (valid_rules R) (within_rules R) R.left R.right (laid_rules R) items (completes_count origin_list items c))))

  module _ {n m t : ℕ} {sets tets : List (List Bool)} {gotos : List ℕ} {s X : ℕ} {from moved items : List Bool} (f : Sofar (grammar_of R) n sets gotos s X) (inside : s < n) (is : state_at sets s ≡ from) (ok : IsCode (grammar_of R) X) (size : length items ≡ 873) (w : WaitsAt R.right from X) (b : BehindAt R.right from X moved) (c : CompletesAt R.left R.right R.count moved items) (p : Placed items n sets m tets t) where
    waits : Waits (grammar_of R) (items_of (state_at sets s)) X
    waits = subst (λ x. Waits (grammar_of R) (items_of x) X) (sym is) (waits_array from X ok.low w)

    move : Move (grammar_of R) (items_of (state_at sets s)) X (items_of items)
    move = subst (λ x. Move (grammar_of R) (items_of x) X (items_of items)) (sym is) (move_arrays from moved items X ok.low b c)

    pub step_more : (t ≡ 96 → ⊥) → Sofar (grammar_of R) m tets (set gotos (88 * s + X) t) s (X + 1)
    step_more ne = (placed_more (grammar_of R) (within_rules R) f inside ok size waits move p ne).0

    pub step_full : t ≡ 96 → Crowded (grammar_of R)
    step_full e = placed_full (grammar_of R) (within_rules R) f inside ok size waits move p e

  pub step_none : (n : ℕ) (sets : List (List Bool)) (gotos : List ℕ) (s X : ℕ) (from : List Bool) → Sofar (grammar_of R) n sets gotos s X → s < n → state_at sets s ≡ from → IsCode (grammar_of R) X → (WaitsAt R.right from X → ⊥) → Sofar (grammar_of R) n sets (set gotos (88 * s + X) 255) s (X + 1)
  step_none n sets gotos s X from f inside is ok nay =
      sofar_entry (grammar_of R) (within_rules R) n sets gotos s X f inside ok 255 (nowhere (λ w. nay (subst (λ x. WaitsAt R.right x X) is (array_waits (state_at sets s) X w))))

  pub row_end : (n : ℕ) (sets : List (List Bool)) (gotos : List ℕ) (s X : ℕ) → R.terminals + R.nonterminals + 1 ≡ X → s < n → Sofar (grammar_of R) n sets gotos s X → Sofar (grammar_of R) n sets gotos (s + 1) 1
  row_end n sets gotos s X far inside f =
      sofar_row (grammar_of R) (within_rules R) n sets gotos s X (omega (arith, terminals_is R, nonterminals_is R)) inside f

  pub numbered_states : (S : States) (s : ℕ) → Sofar (grammar_of R) S.count S.sets S.gotos s 1 → S.count ≤ s → Numbered (grammar_of R) S.count (automaton R S)
  numbered_states S s f far = numbered_lists (grammar_of R) (valid_rules R) (within_rules R) S.count S.sets S.gotos s f far
