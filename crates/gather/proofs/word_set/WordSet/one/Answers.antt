use Rattle.std.proofs.Common.{◌&&◌, eqb, sym, ap, ◌∙◌, arith}
use Rattle.std.proofs.lemmas.Nat.{one_shl}
use Rattle.std.proofs.lemmas.Bool.{lt-ltb}
use Rattle.gather.specs.Bits.{is_bit}
use Rattle.gather.specs.Bitwise.{is_bit_pow}
use Rattle.gather.proofs.word_set.WordSet.one.Goals as goal

pub returns : goal.returns
returns c = λ k.
    let p = c.args.number in
    ap (λ n. is_bit n k) (one_shl p 64 (omega arith)) ∙ is_bit_pow p k ∙ ap (λ t. t && eqb k p) (sym (lt-ltb p 64 (omega arith)))
