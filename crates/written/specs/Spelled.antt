-- What a table of spellings holds.
use Rattle.std.specs.Prelude.{◌≡◌, ℕ, ◌<◌, cond, List, map, length, Some, None, Option, Ok, Err, Result}
use Rattle.std.specs.Borrow.{Bor}
use Rattle.std.specs.Option.{option_map}
use Rattle.std.specs.Iterator.{Drains, Yields}
use Rattle.bounded.specs.BoundedList.{listed}
use Rattle.bounded.specs.declared.full.Full.{Full}
use Rattle.written.specs.declared.spellings.Spellings.{Spellings}
use Rattle.written.specs.Statements.{member, index_of, noted, distinct}

abbrev pub bytes : List (Bor (List ℕ)) → List (List ℕ)
bytes xs = map (λ x. x.now) xs

abbrev pub spelled : Spellings → List (List ℕ)
spelled s = bytes (listed s.items)

-- The bytes of a part of a text, if there is one.
abbrev pub bytes_of : Option (Bor (List ℕ)) → Option (List ℕ)
bytes_of = option_map (λ r. r.now)

-- The number of the spelling in a list, from 0, if it is there.
abbrev pub place_in : List (List ℕ) → List ℕ → Option ℕ
place_in xs x = cond (member x xs) (Some (index_of x xs)) None

-- The spelling is noted, or it would be the 64th.
abbrev pub Noted : Result (Unit {0}) Full → List (List ℕ) → List ℕ → List (List ℕ) → Type 0
Noted (Ok x) before spelling after = after ≡ noted before spelling
Noted (Err e) before spelling after = 63 < length (noted before spelling)

-- All spellings that an iterator gives are collected, or there are more than 63 of them.
abbrev pub Collects : {S : Type 0} → (S → Option (Bor (List ℕ)) → S → Type 0) → S → Result Spellings Full → Type 0
Collects {S} steps s (Ok out) = (xs : List (Bor (List ℕ))) × Drains steps s xs × (spelled out ≡ distinct (bytes xs))
Collects {S} steps s (Err e) = (xs : List (Bor (List ℕ))) × (t : S) × Yields steps s xs t × (63 < length (distinct (bytes xs)))
