-- Where each name heads a statement, all tokens of a sheet have codes.
use Rattle.std.proofs.Common.{◌≡◌, ℕ, Bool, true, false, cond, ◌||◌, List, [], ◌∷◌, ◌++◌, Some, None, Option, sym, refl, subst, ⊎_elim}
use Rattle.std.specs.Str.{bytes_eq}
use Rattle.std.proofs.lemmas.Bool.{cases_Bool, or_cases, or_left, or_right, not-false}
use Rattle.std.proofs.lemmas.Slice.Eq.{bytes_eq-Decides}
use Rattle.written.specs.Drafts.{AllKnown, Known}
use Rattle.written.specs.Tokens.{Token, name, word, colon, bar, semicolon, Placed, tokens}
use Rattle.written.specs.Statements.{member, noted, distinct, distinct_from, words_in}
use Rattle.written.specs.Walks.{first_headless, headless}

alike : (x : List ℕ) → bytes_eq x x ≡ true
alike x = (bytes_eq-Decides x x).1 refl

member_append : (x : List ℕ) (xs ys : List (List ℕ)) → (member x xs || member x ys) ≡ true → member x (xs ++ ys) ≡ true
unfolding member
member_append x [] ys h = h
member_append x (y ∷ xs) ys h =
    ⊎_elim
    (λ here. ⊎_elim (λ e. or_left (bytes_eq x y) (member x (xs ++ ys)) e) (λ m. or_right (bytes_eq x y) (member x (xs ++ ys)) (member_append x xs ys (or_left (member x xs) (member x ys) m))) (or_cases (bytes_eq x y) (member x xs) here))
    (λ later. or_right (bytes_eq x y) (member x (xs ++ ys)) (member_append x xs ys (or_right (member x xs) (member x ys) later)))
    (or_cases (bytes_eq x y || member x xs) (member x ys) h)

-- A spelling stays noted, and one that is noted is there.
noted_keeps : (x y : List ℕ) (seen : List (List ℕ)) → member x seen ≡ true → member x (noted seen y) ≡ true
noted_keeps x y seen h = elim (member y seen) as (λ v. member x (cond v seen (seen ++ y ∷ [])) ≡ true) [ true ↦ h | false ↦ member_append x seen (y ∷ []) (or_left (member x seen) (member x (y ∷ [])) h) ]

noted_there : (x : List ℕ) (seen : List (List ℕ)) → member x (noted seen x) ≡ true
unfolding member
noted_there x seen =
    ⊎_elim
    (λ h. noted_keeps x x seen h)
    (λ h. subst (λ v. member x (cond v seen (seen ++ x ∷ [])) ≡ true) (sym h) (member_append x seen (x ∷ []) (or_right (member x seen) (member x (x ∷ [])) (or_left (bytes_eq x x) false (alike x)))))
    (cases_Bool (member x seen))

distinct_keeps : (x : List ℕ) (xs seen : List (List ℕ)) → member x seen ≡ true → member x (distinct_from seen xs) ≡ true
unfolding distinct_from
distinct_keeps x [] seen h = h
distinct_keeps x (y ∷ xs) seen h = distinct_keeps x xs (noted seen y) (noted_keeps x y seen h)

distinct_there : (x : List ℕ) (xs seen : List (List ℕ)) → member x xs ≡ true → member x (distinct_from seen xs) ≡ true
unfolding distinct_from member
distinct_there x [] seen h = cc
distinct_there x (y ∷ xs) seen h =
    ⊎_elim
    (λ e. distinct_keeps x xs (noted seen y) (subst (λ z. member x (noted seen z) ≡ true) ((bytes_eq-Decides x y).0 e) (noted_there x seen)))
    (λ m. distinct_there x xs (noted seen y) m)
    (or_cases (bytes_eq x y) (member x xs) h)

first_none : (b : Bool) (p : ℕ) (o : Option ℕ) → cond b (Some p) o ≡ None → (b ≡ false) × (o ≡ None)
first_none true p o e = cc
first_none false p o e = (refl, e)

module _ (heads all : List (List ℕ)) where
  abbrev Among : List Token → Type 0
  Among ts = (x : List ℕ) → member x (words_in ts) ≡ true → member x all ≡ true

  known : (t : Token) (ts : List Token) → headless heads t ≡ false → Among (t ∷ ts) → Known (distinct all) (distinct heads) t × Among ts
  unfolding member
  known (name n) ts h a = (distinct_there n heads [] (not-false (member n heads) h), a)
  known (word w) ts h a = (distinct_there w all [] (a w (or_left (bytes_eq w w) (member w (words_in ts)) (alike w))), λ x m. a x (or_right (bytes_eq x w) (member x (words_in ts)) m))
  known colon ts h a = (tt, a)
  known bar ts h a = (tt, a)
  known semicolon ts h a = (tt, a)

  all_known_from : (ts : List Placed) → first_headless heads ts ≡ None → Among (tokens ts) → AllKnown (distinct all) (distinct heads) (tokens ts)
  all_known_from [] e a = tt
  all_known_from (t ∷ ts) e a =
      let none = first_none (headless heads t.token) t.place (first_headless heads ts) e in
      let here = known t.token (tokens ts) none.0 a in
      (here.0, all_known_from ts none.1 here.1)

pub all_known : (heads : List (List ℕ)) (ts : List Placed) → first_headless heads ts ≡ None → AllKnown (distinct (words_in (tokens ts))) (distinct heads) (tokens ts)
all_known heads ts e = all_known_from heads (words_in (tokens ts)) ts e (λ x m. m)
