-- What a refusal to add a rule tells.
use Rattle.grammar.specs.Refusals.{Told}
pub use Rattle.grammar.specs.Refusals.{limits as limits_told, range as range_told}
use Rattle.sheet.specs.declared.add_refusal.AddRefusal.{AddRefusal}
use Rattle.sheet.specs.declared.add_refusal.AddRefusal.TheVariants.{Limits, Range}

-- As building tells it; the rule is told by the number that it would have.
abbrev pub told : AddRefusal → Told
told Limits = limits_told
told (Range rule) = range_told rule
