use Rattle.std.proofs.Common.{◌∙◌, rules}
use Rattle.std.specs.Str.{bytes_eq}
use Rattle.std.proofs.lemmas.Iterator.{YieldsList-from_slice}
use Rattle.std.proofs.lemmas.Iterator.Search.{position_from_yields_List}
use Rattle.bounded.specs.BoundedList.{listed}
use Rattle.written.proofs.Indexes.{place_position}
use Rattle.written.proofs.spellings.Spellings.position.Goals as goal

pub returns-clause-value : goal.returns-clause-value
returns-clause-value c =
    let items = listed c.args.self.now.items in
    position_from_yields_List (λ b. bytes_eq c.args.spelling.now b.now) _ _ c.position.result c.position.ensures.ran (YieldsList-from_slice items (c.iter.ensures.rest ∙ c.as_slice.ensures)) (λ x b q k. search rules)
    ∙ place_position c.args.spelling.now items
