-- What a refusal of a written sheet tells.
use Rattle.std.specs.Prelude.{ℕ, [], ◌∷◌}
use Rattle.grammar.specs.Refusals.{Told, number}
pub use Rattle.grammar.specs.Refusals.{limits as limits_told}
use Rattle.written.specs.declared.written_refusal.WrittenRefusal.{WrittenRefusal}
use Rattle.written.specs.declared.written_refusal.WrittenRefusal.TheVariants.{Form, Limits}

-- Number 2, and the place.
abbrev pub form_told : ℕ → Told
form_told place = record { number = 2; values = number place ∷ [] }

-- Limits are told as building tells them.
abbrev pub told : WrittenRefusal → Told
told (Form place) = form_told place
told Limits = limits_told
