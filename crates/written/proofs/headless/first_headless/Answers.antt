use Rattle.std.proofs.Common.{◌≡◌, rules}
use Rattle.written.specs.Tokens.{tokens}
use Rattle.written.specs.Walks.{heads_in}
use Rattle.written.proofs.FirstHeadless.{headless_found}
use Rattle.written.proofs.headless.first_headless.Goals as goal

pub returns : goal.returns
returns c ts l = headless_found (heads_in (tokens ts)) (λ f. f.0.now ≡ c.args.text.now) _ (λ p x r q k h. search (rules, l)) c.new.result _ _ c.find_map.result _ (search rules) c.find_map.ensures.ran c.find_map.ensures.runs (λ a r f k. search rules) ts (c.new.ensures ts l)
