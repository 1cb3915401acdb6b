-- Tests over lists, and what a passed test says.
use Rattle.std.proofs.Common.{◌≡◌, ℕ, zero, suc, ◌+◌, ◌<◌, ◌≤◌, Bool, true, false, not, ◌&&◌, ◌||◌, eqb, ◌⊎◌, List, [], ◌∷◌, ◌++◌, get_or, sym, refl, ap, ◌∙◌, inl, inr, arith}
use Rattle.std.specs.List.{list_any, list_all}
use mathlib.Core.Bool.{false≢true}
use mathlib.Core.List.Memᴰ
use mathlib.Core.List.{Memᴰ}
use Rattle.std.proofs.lemmas.Bool.{and_parts, and_from, or_cases, or_left, or_right, eqb-true, eq-eqb, cases_eq}
use Rattle.examples.specs.Tables.{same_pair}

-- n numbers from a.
abbrev pub range : ℕ → ℕ → List ℕ
range a zero = []
range a (suc n) = a ∷ range (suc a) n

-- An implication as a test.
pub implies : (a b : Bool) → (not a || b) ≡ true → a ≡ true → b ≡ true
implies true b e h = e
implies false b e h = absurd (false≢true h)

pub all_at : {B : Type 0} (f : B → Bool) (l : List B) {x : B} → list_all f l ≡ true → Memᴰ x l → f x ≡ true
all_at f [] h m = elim m [ ]
all_at f (y ∷ l) {x} h m = pick (all_at f l (and_parts (f y) (list_all f l) h).1) (Memᴰ.cases_cons m)
  where
    pick : (Memᴰ x l → f x ≡ true) → (x ≡ y) ⊎ Memᴰ x l → f x ≡ true
    pick k (inl e) = ap f e ∙ (and_parts (f y) (list_all f l) h).0
    pick k (inr n) = k n

pub any_at : {B : Type 0} (f : B → Bool) (l : List B) → list_any f l ≡ true → (x : B) × Memᴰ x l × (f x ≡ true)
any_at f [] h = absurd (false≢true h)
any_at {B} f (y ∷ l) h = pick (any_at f l) (or_cases (f y) (list_any f l) h)
  where
    pick : (list_any f l ≡ true → (x : B) × Memᴰ x l × (f x ≡ true)) → (f y ≡ true) ⊎ (list_any f l ≡ true) → (x : B) × Memᴰ x (y ∷ l) × (f x ≡ true)
    pick k (inl e) = (y, Memᴰ.head refl, e)
    pick k (inr e) = let z = k e in (z.0, Memᴰ.tail z.1, z.2)

pub any_from : {B : Type 0} (f : B → Bool) (l : List B) {x : B} → Memᴰ x l → f x ≡ true → list_any f l ≡ true
any_from f [] m h = elim m [ ]
any_from f (y ∷ l) {x} m h = pick (λ n. any_from f l n h) (Memᴰ.cases_cons m)
  where
    pick : (Memᴰ x l → list_any f l ≡ true) → (x ≡ y) ⊎ Memᴰ x l → (f y || list_any f l) ≡ true
    pick k (inl e) = or_left (f y) (list_any f l) (ap f (sym e) ∙ h)
    pick k (inr n) = or_right (f y) (list_any f l) (k n)

pub all_append : {B : Type 0} (f : B → Bool) (l m : List B) → list_all f l ≡ true → list_all f m ≡ true → list_all f (l ++ m) ≡ true
all_append f [] m h k = k
all_append f (x ∷ l) m h k = let p = and_parts (f x) (list_all f l) h in and_from (f x) (list_all f (l ++ m)) p.0 (all_append f l m p.1 k)

pub mem_range : (a n q : ℕ) → a ≤ q → q < a + n → Memᴰ q (range a n)
mem_range a zero q h k = absurd (omega arith)
mem_range a (suc n) q h k = pick (cases_eq q a) (λ l. mem_range (suc a) n q l (omega arith))
  where
    pick : (q ≡ a) ⊎ (q ≡ a → ⊥) → (a < q → Memᴰ q (range (suc a) n)) → Memᴰ q (a ∷ range (suc a) n)
    pick (inl e) c = Memᴰ.head e
    pick (inr e) c = Memᴰ.tail (c (omega arith))

pub range_bounds : (a n : ℕ) {q : ℕ} → Memᴰ q (range a n) → (a ≤ q) × (q < a + n)
range_bounds a zero m = elim m [ ]
range_bounds a (suc n) {q} m = pick (range_bounds (suc a) n) (Memᴰ.cases_cons m)
  where
    pick : (Memᴰ q (range (suc a) n) → (suc a ≤ q) × (q < suc a + n)) → (q ≡ a) ⊎ Memᴰ q (range (suc a) n) → (a ≤ q) × (q < a + suc n)
    pick k (inl e) = (omega arith, omega arith)
    pick k (inr o) = let b = k o in (omega arith, omega arith)

-- A test that tells whether two values are equal.
pub record Equality {B : Type 0} (same : B → B → Bool) : Type 0 where
  pub sound : (x y : B) → same x y ≡ true → x ≡ y
  pub reflexive : (x : B) → same x x ≡ true

abbrev pub same_both : {B C : Type 0} → (B → B → Bool) → (C → C → Bool) → B × C → B × C → Bool
same_both f g x y = f x.0 y.0 && g x.1 y.1

pub numbers : Equality eqb
numbers = record { sound = eqb-true; reflexive = λ x. eq-eqb x x refl }

pub both : {B C : Type 0} {f : B → B → Bool} {g : C → C → Bool} → Equality f → Equality g → Equality (same_both f g)
both {f} {g} E F =
    record {
      sound = λ x y h. let p = and_parts (f x.0 y.0) (g x.1 y.1) h in λ i. (E.sound x.0 y.0 p.0 i, F.sound x.1 y.1 p.1 i);
      reflexive = λ x. and_from (f x.0 x.0) (g x.1 x.1) (E.reflexive x.0) (F.reflexive x.1);
    }

pub pairs : Equality same_pair
pairs = both numbers numbers

-- A value is in a list.
abbrev pub member : {B : Type 0} → (B → B → Bool) → List B → B → Bool
member same l x = list_any (same x) l

pub mem_from : {B : Type 0} {same : B → B → Bool} → Equality same → (l : List B) (x : B) → member same l x ≡ true → Memᴰ x l
mem_from {same} E l x h = let z = any_at (same x) l h in Memᴰ.cast (E.sound x z.0 z.2) z.1

pub mem_to : {B : Type 0} {same : B → B → Bool} → Equality same → (l : List B) {x : B} → Memᴰ x l → member same l x ≡ true
mem_to {same} E l {x} m = any_from (same x) l m (E.reflexive x)

-- All of some tests.
abbrev pub conj : List Bool → Bool
conj [] = true
conj (b ∷ l) = b && conj l

abbrev pub Conj : List Bool → Type 0
Conj [] = Unit {0}
Conj (b ∷ l) = (b ≡ true) × Conj l

-- The test at a place has passed.
pub passed : (l : List Bool) → conj l ≡ true → (i : ℕ) → get_or l i true ≡ true
passed [] h i = refl
passed (b ∷ l) h zero = (and_parts b (conj l) h).0
passed (b ∷ l) h (suc i) = passed l (and_parts b (conj l) h).1 i

pub from_parts : (l : List Bool) → Conj l → conj l ≡ true
from_parts [] p = refl
from_parts (b ∷ l) p = and_from b (conj l) p.0 (from_parts l p.1)
