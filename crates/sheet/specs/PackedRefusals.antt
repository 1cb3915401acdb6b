-- What a refusal of packed numbers tells.
use Rattle.std.specs.Prelude.{ℕ, [], ◌∷◌}
use Rattle.grammar.specs.Refusals.{Told, number}
use Rattle.sheet.specs.declared.packed_refusal.PackedRefusal.{PackedRefusal}
use Rattle.sheet.specs.declared.packed_refusal.PackedRefusal.TheVariants.{Layout}

-- Number 1, and where the list is off.
abbrev pub off_told : ℕ → Told
off_told place = record { number = 1; values = number place ∷ [] }

abbrev pub told : PackedRefusal → Told
told (Layout rule) = off_told rule
