-- A list at a place: the code there, what stands before it and what behind.
use Rattle.std.proofs.Common.{◌≡◌, ℕ, suc, List, [], ◌∷◌, ◌++◌, length, take, drop, refl, ap, Some, slice_get, arith, add-one, ◌∙◌, sym}
use Rattle.std.proofs.lemmas.Option.{slice_get_within, get_or_from_slice_get}
use Rattle.std.proofs.lemmas.List.{drop-drop, length-append}
use Rattle.std.proofs.Math.Seq.{take-suc, drop-cons}

pub get_elem_append : (α : List ℕ) (X : ℕ) (β : List ℕ) → slice_get (α ++ X ∷ β) (length α) ≡ Some X
get_elem_append [] X β = refl
get_elem_append (x ∷ α) X β = get_elem_append α X β

pub length_snoc : (α : List ℕ) (X : ℕ) → length (α ++ X ∷ []) ≡ suc (length α)
length_snoc α X = omega (arith, length-append α (X ∷ []))

pub drop_suc : (n : ℕ) (l : List ℕ) {x : ℕ} {m : List ℕ} → drop n l ≡ x ∷ m → drop (suc n) l ≡ m
drop_suc n l e = ap (λ k. drop k l) (sym (add-one n)) ∙ sym (drop-drop 1 n l) ∙ ap (drop 1) e

pub take_suc_at : (l : List ℕ) (d X : ℕ) → slice_get l d ≡ Some X → take (suc d) l ≡ take d l ++ X ∷ []
take_suc_at l d X e = take-suc l d 0 (slice_get_within l d X e) ∙ ap (λ x. take d l ++ x ∷ []) (get_or_from_slice_get l d X 0 e)

pub drop_at_code : (l : List ℕ) (d X : ℕ) → slice_get l d ≡ Some X → drop d l ≡ X ∷ drop (suc d) l
drop_at_code l d X e = drop-cons l d 0 (slice_get_within l d X e) ∙ ap (λ x. x ∷ drop (suc d) l) (get_or_from_slice_get l d X 0 e)
