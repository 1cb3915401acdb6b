-- Lists in which each fact has its reasons before it.
use Rattle.std.proofs.Common.{◌≡◌, Bool, true, ◌&&◌, ◌⊎◌, List, [], ◌∷◌, sym, subst, inl, inr}
use mathlib.Core.List.Memᴰ
use mathlib.Core.List.{Memᴰ}
use Rattle.std.proofs.lemmas.Bool.{and_parts}

-- Each element passes the test against those before it.
abbrev pub ordered : {B : Type 0} → (List B → B → Bool) → List B → List B → Bool
ordered why before [] = true
ordered why before (x ∷ l) = why before x && ordered why (x ∷ before) l

abbrev pub Each : {B : Type 0} → (B → Type 0) → List B → Type 0
Each {B} P l = (x : B) → Memᴰ x l → P x

module _ {B : Type 0} (P : B → Type 0) where
  each_more : (l : List B) (x : B) → Each P l → P x → Each P (x ∷ l)
  each_more l x k h y m = pick (Memᴰ.cases_cons m)
    where
      pick : (y ≡ x) ⊎ Memᴰ y l → P y
      pick (inl e) = subst P (sym e) h
      pick (inr n) = k y n

  module _ (why : List B → B → Bool) (reason : (before : List B) (x : B) → Each P before → why before x ≡ true → P x) where
    from_before : (before l : List B) → Each P before → ordered why before l ≡ true → Each P l
    from_before before [] k h = λ x m. elim m [ ]
    from_before before (x ∷ l) k h =
        let p = and_parts (why before x) (ordered why (x ∷ before) l) h in
        let hx = reason before x k p.0 in
        each_more l x (from_before (x ∷ before) l (each_more before x k hx) p.1) hx

    -- What holds of each fact whose reasons hold, holds of a whole list in order.
    pub in_order : (l : List B) → ordered why [] l ≡ true → Each P l
    in_order l h = from_before [] l (λ x m. elim m [ ]) h
