use Rattle.std.proofs.Common.{rules}
use Rattle.written.proofs.FirstWord.{first_word}
use Rattle.written.proofs.words.WordsIterator.next.Goals as goal

pub returns-clause-steps : goal.returns-clause-steps
returns-clause-steps c = first_word _ (λ p x r q k. search rules) c.args.self.now _ _ c.find_map.result _ c.find_map.ensures.ran c.find_map.ensures.runs (λ a r f k. search rules)
