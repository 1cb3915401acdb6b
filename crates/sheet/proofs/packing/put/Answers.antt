use Rattle.std.proofs.Common.{arith}
use Rattle.sheet.proofs.Packs.{packed_parts}
use Rattle.sheet.proofs.packing.put.Goals as goal

pub split_at_mut-places-requires : goal.split_at_mut-places-requires
split_at_mut-places-requires g c = omega (arith, packed_parts (g.S.RuleSheet.meaning c.args.sheet.now), c.requires.whole, c.rules-2.ensures, c.split_at_mut-counts.ensures.back_len)
