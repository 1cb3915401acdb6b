-- A rule of a written sheet, by its place and by its number.
use Rattle.std.proofs.Common.{◌≡◌, ℕ, suc, Option, sym, ap, ◌∙◌}
use Rattle.std.specs.List.{slice_get}
use Rattle.std.specs.Option.{option_map}
use Rattle.std.proofs.lemmas.Option.{slice_get-map}
use Rattle.bounded.specs.BoundedList.{listed}
use Rattle.sheet.specs.Readings.{rule_told}
use Rattle.sheet.specs.ShortRules.{rule_of}
use Rattle.sheet.specs.declared.short_rule.ShortRule.{ShortRule}
use Rattle.written.specs.WrittenSheets.{written_grammar}
use Rattle.written.specs.declared.written.WrittenSheet.{WrittenSheet}

pub found_by_number : (s : WrittenSheet) (rule at : ℕ) (found : Option ShortRule) → found ≡ slice_get (listed s.rules) at → suc at ≡ rule → option_map rule_of found ≡ rule_told (written_grammar s) rule
found_by_number s rule at found is place = ap (option_map rule_of) is ∙ sym (slice_get-map rule_of (listed s.rules) at) ∙ ap (rule_told (written_grammar s)) place
