-- What every book keeps to, whatever it is made of.
use Rattle.std.specs.Prelude.{◌≡◌, ℕ, ◌+◌, ◌^◌, ◌<◌, Bool, true, false, List, [], ◌++◌, length}

-- Numbers are entered all or none: all where so many are free, which are then fewer by their count; else the book is the same.
abbrev pub Entered : {B : Type 0} → (B → List ℕ) → (B → ℕ) → (B → List ℕ → B → Type 0) → B → List ℕ → Bool → B → Type 0
Entered list free grows b ns true b' = (list b' ≡ list b ++ ns) × (free b ≡ free b' + length ns) × grows b ns b'
Entered list free grows b ns false b' = (free b < length ns) × (b' ≡ b)

-- What holds of every book.
pub record Laws {B : Type 0} (list : B → List ℕ) (free : B → ℕ) (grows : B → List ℕ → B → Type 0) : Type 0 where
  -- the numbers held and those free are below 2^32 in sum
  pub bounded : (b : B) → length (list b) + free b < 2 ^ 32
  -- a book left alone grows by nothing
  pub stays : (b : B) → grows b [] b
  -- to grow twice is to grow once by both lists
  pub joins : (a b c : B) (xs ys : List ℕ) → grows a xs b → grows b ys c → grows a (xs ++ ys) c
  -- a book that grew has the numbers behind its list, and so many fewer free
  pub adds : (a b : B) (xs : List ℕ) → grows a xs b → (list b ≡ list a ++ xs) × (free a ≡ free b + length xs)
