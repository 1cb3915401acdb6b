use Rattle.std.proofs.Common.{rules, ◌∙◌}
use Rattle.std.specs.Str.{bytes_eq}
use Rattle.std.proofs.lemmas.Iterator.Search.{any_from_yields_List}
use Rattle.written.specs.Tokens.{tokens}
use Rattle.written.specs.Walks.{heads_in}
use Rattle.written.proofs.Walking.{heads_yielded}
use Rattle.written.proofs.Indexes.{any_member}
use Rattle.written.proofs.headless.is_head.Goals as goal

pub returns : goal.returns
returns c ts l =
    let name = c.args.name.now in
    any_from_yields_List (bytes_eq name) _ _ c.any.result c.any.ensures.ran (heads_yielded c.new.result ts c.new.ensures.between (c.new.ensures.tokens ts l)) (λ x b q k. search rules)
    ∙ any_member name (heads_in (tokens ts))
