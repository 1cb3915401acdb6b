-- What is told tells the refusal.
use Rattle.std.proofs.Common.{◌≡◌, ap, arith}
use Rattle.grammar.specs.Refusals.{Told}
use Rattle.tables.specs.declared.build_refusal.BuildRefusal.{BuildRefusal}
use Rattle.tables.specs.BuildRefusals.{told}

pub told_once : (e f : BuildRefusal) → told e ≡ told f → e ≡ f
told_once e f p =
    let n = ap (λ (t : Told). t.number) p in
    let v = ap (λ (t : Told). t.values) p in
    grind (arith, n, v)
