-- What the loop of `complete` keeps.
use Rattle.std.proofs.Common.{◌≡◌, ℕ, ◌+◌, ◌<◌, List, [], ◌∷◌, ◌++◌, take, length, length-append, get_or, set, sym, ap, ◌∙◌, subst, ⊎_elim, arith}
use Rattle.std.proofs.Math.ListN.{get_or-append}
use Rattle.std.proofs.Math.Seq.{get_or-append_seam}
use Rattle.std.proofs.lemmas.List.{length-set, get_or-set_same, get_or-set_other, take_more}
use Rattle.std.proofs.lemmas.Bool.{cases_eq, cases_order}
use Rattle.gather.specs.declared.visit.Visit.{Visit}
use Rattle.gather.specs.declared.visit.Visit.TheVariants.{Unseen, Done}
use Rattle.gather.specs.Stack.{Completed}

-- The same element at each of some places, where it is set at one more.
set_more : {X : Type 0} (v none : X) (xs : List X) (places : List ℕ) (x : ℕ) → x < length xs
    → ((a : ℕ) → a < length places → get_or xs (get_or places a 0) none ≡ v)
    → (a : ℕ) → a < length (places ++ x ∷ []) → get_or (set xs x v) (get_or (places ++ x ∷ []) a 0) none ≡ v
set_more v none xs places x inside before a l =
    ⊎_elim
    (λ e. ap (λ p. get_or (set xs x v) p none) e ∙ get_or-set_same xs x v none inside)
    (λ ne.
    get_or-set_other xs x (get_or (places ++ x ∷ []) a 0) v none ne
    ∙ ⊎_elim
    (λ e. absurd (ne (ap (λ b. get_or (places ++ x ∷ []) b 0) e ∙ get_or-append_seam places x [] 0)))
    (⊎_elim (λ lt. ap (λ p. get_or xs p none) (get_or-append places (x ∷ []) 0 a lt) ∙ before a lt) (λ gt. absurd (omega (arith, length-append places (x ∷ [])))))
    (cases_order a (length places)))
    (cases_eq (get_or (places ++ x ∷ []) a 0) x)

completed_more : {M : Type 0} {none v : M} {places : List ℕ} {values values' : List M} {visits visits' : List Visit} (x : ℕ) → x < length values' → x < length visits'
    → Completed none v places values values' visits visits' → Completed none v (places ++ x ∷ []) values (set values' x v) visits (set visits' x Done)
completed_more {none = none} {v = v} {places = places} {values' = values'} {visits' = visits'} x in_values in_visits c = record {
  size = length-set values' x v ∙ c.size;
  sizes = length-set visits' x Done ∙ c.sizes;
  visited = set_more Done Unseen visits' places x in_visits c.visited;
  valued = set_more v none values' places x in_values c.valued;
  others = λ p away.
      let last = get_or-append_seam places x [] 0 in
      let ne : p ≡ x → ⊥ = λ e. away (length places) (omega (arith, length-append places (x ∷ []))) (last ∙ sym e) in
      let old = c.others p (λ a l e. away a (omega (arith, length-append places (x ∷ []))) (get_or-append places (x ∷ []) 0 a l ∙ e)) in
      (get_or-set_other visits' x p Done Unseen ne ∙ old.0, get_or-set_other values' x p v none ne ∙ old.1);
}

-- The next of some places is done too.
pub completed_next : {M : Type 0} {none v : M} {values values' : List M} {visits visits' : List Visit} (places : List ℕ) (i : ℕ) → i < length places → get_or places i 0 < length values' → get_or places i 0 < length visits'
    → Completed none v (take i places) values values' visits visits' → Completed none v (take (i + 1) places) values (set values' (get_or places i 0) v) visits (set visits' (get_or places i 0) Done)
completed_next {none = none} {v = v} {values = values} {values' = values'} {visits = visits} {visits' = visits'} places i inside in_values in_visits c =
    let x = get_or places i 0 in
    subst (λ ps. Completed none v ps values (set values' x v) visits (set visits' x Done)) (sym (take_more places i 0 inside)) (completed_more x in_values in_visits c)
