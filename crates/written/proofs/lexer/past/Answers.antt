use Rattle.std.proofs.Common.{◌+◌, rules, ap, ◌∙◌}
use Rattle.std.specs.Slice.Iter.{iter_rest}
use Rattle.written.proofs.LeadingBytes.{leading_count}
use Rattle.written.proofs.lexer.past.Goals as goal

pub returns-clause-value : goal.returns-clause-value
returns-clause-value g c = λ p computes. ap (λ n. c.args.from + n) (leading_count _ p c.args.text.now c.args.from _ c.count.ensures.ran (ap iter_rest c.take_while.ensures.source ∙ c.iter.ensures.rest) c.take_while.ensures.closure c.take_while.ensures.done (λ x b q h. search (rules, computes)))
