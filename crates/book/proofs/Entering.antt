-- Numbers that are entered in a book.
use Rattle.std.proofs.Common.{ℕ, ◌+◌, ◌<◌, ◌≤◌, Bool, true, false, List, [], ◌∷◌, length, get_or, take, sym, subst, arith}
use Rattle.std.proofs.lemmas.List.{take_more, length-take-le}
use Rattle.book.specs.Books.{Entered, Laws}

module _ {B : Type 0} {list : B → List ℕ} {free : B → ℕ} {grows : B → List ℕ → B → Type 0} (laws : Laws list free grows) where
  -- A book that grew by numbers has them entered.
  pub grown_entered : (a b : B) (ns : List ℕ) → grows a ns b → Entered list free grows a ns true b
  grown_entered a b ns g = let added = laws.adds a b ns g in (added.0, added.1, g)

  -- A number is entered where one is free.
  free_entered : (a : B) (n : ℕ) (r : Bool) (b : B) → 0 < free a → Entered list free grows a (n ∷ []) r b → grows a (n ∷ []) b
  free_entered a n true b h e = e.2
  free_entered a n false b h e = absurd (omega arith)

  -- One number more of those to enter, of which so many are free.
  pub grows_more : (a b c : B) (ns : List ℕ) (i : ℕ) (r : Bool) → length ns ≤ free a → i < length ns → grows a (take i ns) b → Entered list free grows b (get_or ns i 0 ∷ []) r c → grows a (take (i + 1) ns) c
  grows_more a b c ns i r room h g e =
      let one : 0 < free b = omega (arith, (laws.adds a b (take i ns) g).1, length-take-le i ns (omega arith)) in
      subst (λ xs. grows a xs c) (sym (take_more ns i 0 h)) (laws.joins a b c (take i ns) _ g (free_entered b _ r c one e))
