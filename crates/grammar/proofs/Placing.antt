-- One entry more, by what giving its set a number says.
use Rattle.std.proofs.Common.{◌≡◌, ℕ, ◌+◌, ◌*◌, ◌<◌, ◌≤◌, Bool, List, length, set, sym, refl, subst, arith}
use Rattle.grammar.specs.Grammar.{Grammar}
use Rattle.grammar.specs.Items.{Move, Waits}
use Rattle.grammar.specs.States.{Crowded}
use Rattle.grammar.specs.Outcome.{Within}
use Rattle.grammar.specs.ItemLists.{items_of}
use Rattle.grammar.specs.StateLists.{IsCode, state_at, leads, Sofar, Placed, old, new, full}
use Rattle.grammar.proofs.StateSteps.{sofar_entry, sofar_new, sofar_full}

pub placed_below : {n m t : ℕ} {sets tets : List (List Bool)} {items : List Bool} → Placed items n sets m tets t → n ≤ 96 → t ≤ 96
placed_below (old l e) h = omega arith
placed_below (new p l k) h = omega arith
placed_below (full p k) h = omega arith

module _ (G : Grammar) (W : Within G) where
  -- The set has a number, or a 97th is needed.
  pub placed_more : {n m t : ℕ} {sets tets : List (List Bool)} {gotos : List ℕ} {s X : ℕ} {items : List Bool} → Sofar G n sets gotos s X → s < n → IsCode G X → length items ≡ 873 → Waits G (items_of (state_at sets s)) X → Move G (items_of (state_at sets s)) X (items_of items) → Placed items n sets m tets t → (t ≡ 96 → ⊥) → Sofar G m tets (set gotos (88 * s + X) t) s (X + 1) × (n ≤ m)
  placed_more {n} {m} {t} {sets} {tets} {gotos} {s} {X} {items} f inside ok size waits move (old l e) ne =
      (sofar_entry G W n sets gotos s X f inside ok t (leads l waits (subst (λ ys. Move G (items_of (state_at sets s)) X (items_of ys)) (sym e) move)), omega arith)
  placed_more {n} {m} {t} {sets} {tets} {gotos} {s} {X} {items} f inside ok size waits move (new p room k) ne =
      (subst (λ u. Sofar G (n + 1) (set sets u items) (set gotos (88 * s + X) u) s (X + 1)) (sym p) (sofar_new G W n sets gotos s X f inside ok items size waits move k room), omega arith)
  placed_more f inside ok size waits move (full p k) ne = absurd (ne refl)

  pub placed_full : {n m t : ℕ} {sets tets : List (List Bool)} {gotos : List ℕ} {s X : ℕ} {items : List Bool} → Sofar G n sets gotos s X → s < n → IsCode G X → length items ≡ 873 → Waits G (items_of (state_at sets s)) X → Move G (items_of (state_at sets s)) X (items_of items) → Placed items n sets m tets t → t ≡ 96 → Crowded G
  placed_full f inside ok size waits move (old l e) q = absurd (omega (arith, f.high))
  placed_full f inside ok size waits move (new p room k) q = absurd (omega arith)
  placed_full {n} {m} {t} {sets} {tets} {gotos} {s} {X} {items} f inside ok size waits move (full p k) q = sofar_full G W n sets gotos s X f inside ok items size waits move k p
