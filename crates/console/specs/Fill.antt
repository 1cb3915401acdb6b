-- What reading takes from its source.
use Rattle.std.specs.Prelude.{◌≡◌, ℕ, ◌+◌, ◌≤◌, List, Option, Some, None, Result, Ok, Err, length, take, vec_items}
use Rattle.std.specs.Io.KnownBytes.{Consumes, IsAtEnd}
use Rattle.std.specs.declared.vec.Vec.{Vec}

-- a reader gave some bytes, and they are the front of the buffer
abbrev pub ConsumesFront : Option (List ℕ) → Option (List ℕ) → List ℕ → Type 0
ConsumesFront old new buffer = (n : ℕ) × (n ≤ length buffer) × Consumes old new (take n buffer)

-- A text is all that the reader had, at most so many bytes. Without one it gave one byte more than that, and before an error at most one more.
abbrev pub TextRead : {A E : Type 0} → ℕ → Option (List ℕ) → Option (List ℕ) → Result (Option (Vec ℕ A)) E → Type 0
TextRead most old new (Ok (Some text)) = (length (vec_items text) ≤ most) × Consumes old new (vec_items text) × IsAtEnd new
TextRead most old new (Ok None) = (bs : List ℕ) × (length bs ≡ most + 1) × Consumes old new bs
TextRead most old new (Err _) = (bs : List ℕ) × (length bs ≤ most + 1) × Consumes old new bs
