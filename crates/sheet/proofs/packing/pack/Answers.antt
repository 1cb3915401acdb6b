use Rattle.std.proofs.Common.{◌++◌, drop, ap, arith}
use Rattle.sheet.specs.Packing.{packed}
use Rattle.sheet.proofs.Packs.{narrow_held}
use Rattle.sheet.proofs.packing.pack.Goals as goal

pub returns : goal.returns
returns g c =
    let G = g.S.RuleSheet.meaning c.args.sheet.now in
    let done = ap (λ ns. ns ++ drop c.in_ok-size.size c.args.out.now) c.put.ensures in
    record {
      answer = record {
        count = c.in_ok-size.ensures.0;
        room = omega (arith, c.in_ok-size.ensures.0);
        narrow = narrow_held (packed G) (drop c.in_ok-size.size c.args.out.now) _ done (λ i. omega (arith, c.type_inv.out i));
        done = done;
      };
    }
