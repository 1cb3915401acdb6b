-- Where a spelling stands in a list of spellings.
use Rattle.std.proofs.Common.{◌≡◌, ℕ, suc, ◌+◌, ◌<◌, ◌≤◌, true, false, not, cond, ltb, ◌||◌, List, [], ◌∷◌, length, Some, None, Bor, sym, refl, ap, ◌∙◌, ⊎_elim, arith}
use Rattle.std.specs.List.{list_any, position_or_len}
use Rattle.std.specs.Str.{bytes_eq}
use Rattle.std.proofs.lemmas.List.{length-map}
use Rattle.std.proofs.lemmas.Bool.{cond-true, cond-false, cases_Bool, or_left, or_right, or_from, lt-ltb, le-ltb, ltb-true, ltb-false}
use Rattle.written.specs.Spelled.{bytes, place_in}
use Rattle.written.specs.Statements.{member, index_of}

-- A spelling is in a list exactly when its index is below the length.
member_index : (x : List ℕ) (xs : List (List ℕ)) → index_of x xs < length xs → member x xs ≡ true
unfolding member index_of
member_index x [] h = absurd (omega arith)
member_index x (y ∷ xs) h =
    ⊎_elim
    (λ e. or_left (bytes_eq x y) (member x xs) e)
    (λ n. or_right (bytes_eq x y) (member x xs) (member_index x xs (let k = cond-false (bytes_eq x y) 0 (suc (index_of x xs)) n in omega arith)))
    (cases_Bool (bytes_eq x y))

no_member_index : (x : List ℕ) (xs : List (List ℕ)) → length xs ≤ index_of x xs → member x xs ≡ false
unfolding member index_of
no_member_index x [] h = refl
no_member_index x (y ∷ xs) h =
    ⊎_elim
    (λ e. absurd (let k = cond-true (bytes_eq x y) 0 (suc (index_of x xs)) e in omega arith))
    (λ n. or_from (bytes_eq x y) (member x xs) n (no_member_index x xs (let k = cond-false (bytes_eq x y) 0 (suc (index_of x xs)) n in omega arith)))
    (cases_Bool (bytes_eq x y))

-- The index is the first position whose spelling is alike.
index_position : (x : List ℕ) (bs : List (Bor (List ℕ))) → index_of x (bytes bs) ≡ position_or_len (λ b. bytes_eq x b.now) bs
unfolding index_of
index_position x [] = refl
index_position x (b ∷ bs) =
    let later = index_position x bs in
    elim (bytes_eq x b.now) as (λ v. cond v 0 (suc (index_of x (bytes bs))) ≡ cond (not v) (1 + position_or_len (λ b. bytes_eq x b.now) bs) 0) [ true ↦ refl | false ↦ omega arith ]

pub place_position : (x : List ℕ) (bs : List (Bor (List ℕ))) → (let n = position_or_len (λ b. bytes_eq x b.now) bs in cond (ltb n (length bs)) (Some n) None) ≡ place_in (bytes bs) x
place_position x bs =
    let n = position_or_len (λ (b : Bor (List ℕ)). bytes_eq x b.now) bs in
    let same = index_position x bs in
    let long = length-map bs (λ b. b.now) in
    let there = λ (h : n < length bs). cond-true _ (Some n) None (lt-ltb n (length bs) h) ∙ ap Some (sym same) ∙ sym (cond-true _ (Some (index_of x (bytes bs))) None (member_index x (bytes bs) (omega arith))) in
    let none = λ (h : length bs ≤ n). cond-false _ (Some n) None (le-ltb n (length bs) h) ∙ sym (cond-false _ (Some (index_of x (bytes bs))) None (no_member_index x (bytes bs) (omega arith))) in
    ⊎_elim (λ y. there (ltb-true n (length bs) y)) (λ e. none (ltb-false n (length bs) e)) (cases_Bool (ltb n (length bs)))

pub any_member : (x : List ℕ) (xs : List (List ℕ)) → list_any (bytes_eq x) xs ≡ member x xs
unfolding member
any_member x [] = refl
any_member x (y ∷ xs) = ap (λ b. bytes_eq x y || b) (any_member x xs)
