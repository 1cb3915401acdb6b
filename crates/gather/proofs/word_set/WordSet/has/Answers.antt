use Rattle.std.proofs.Common.{sym, ◌∙◌, arith}
use Rattle.std.proofs.lemmas.Bool.{le-ltb}
use Rattle.gather.specs.Bitwise.{is_bit_high}
use Rattle.gather.proofs.word_set.WordSet.has.Goals as goal

pub returns-else-number-lt64 : goal.returns-else-number-lt64
returns-else-number-lt64 c = le-ltb c.args.number 64 (omega arith) ∙ sym (is_bit_high c.args.self.0 64 c.args.number (omega arith) (omega arith))
