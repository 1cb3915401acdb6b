use Rattle.std.proofs.Common.{◌<◌, ◌≢◌, length, refl, arith, below_more, get_or-set_other, get_or-set_same}
use Rattle.std.proofs.lemmas.List.{ext_get_or}
use Rattle.grammar.specs.Grammar.{right_side}
use Rattle.grammar.proofs.Codes.{each_code}
use Rattle.tables.proofs.SheetArrays.{code_read, code_missing, off_range}
use Rattle.tables.proofs.limits.codes.Goals as goal

pub returns-then-code-eq0 : goal.returns-then-code-eq0
returns-then-code-eq0 g c =
    let G = g.S.RuleSheet.meaning c.args.sheet.now in
    let r = c.args.rule in
    let d = c.loop-place.place in
    let is = code_read G r d c.in-Some.code c.code.result c.requires.rule c.in-Some.is c.code.ensures in (
      refl,
      off_range G r d c.in-Some.code is (omega (arith, c.requires.size.0)) λ low high.
          omega (arith, c.requires.top.0),
    )

pub loop-place-preserved : goal.loop-place-preserved
loop-place-preserved g c =
    let G = g.S.RuleSheet.meaning c.args.sheet.now in
    let d = c.loop-place.place in
    let r = c.args.rule in
    let is = code_read G r d c.in-Some.code c.code.result c.requires.rule c.in-Some.is c.code.ensures in
    below_more _ _
    (λ k h. let ne : k ≢ d = omega arith in rw get_or-set_other (c.loop-place.invariant k h))
    (let lt : d < length c.loop-place.right = omega arith in rw get_or-set_same (is, omega arith, omega arith))

pub returns : goal.returns
returns g c =
    let G = g.S.RuleSheet.meaning c.args.sheet.now in
    let rs = right_side G c.args.rule in
    let all = c.loop-place.invariant in (
      ext_get_or 0 c.loop-place.right rs (omega (arith, c.requires.size.0)) (λ d l. (all d (omega arith)).0),
      each_code G rs λ d l. let k = all d (omega (arith, c.requires.size.0)) in (omega (arith, k.0, k.1), omega (arith, k.0, k.2, c.requires.top.0)),
    )

pub returns-in_default : goal.returns-in_default
returns-in_default g c =
    let G = g.S.RuleSheet.meaning c.args.sheet.now in
    let r = c.args.rule in
    let d = c.loop-place.place in
    let is = code_missing G r d c.code.result c.requires.rule c.in_default.is c.code.ensures in (
      refl,
      off_range G r d 0 is (omega (arith, c.requires.size.0)) λ low high. omega (arith, low),
    )
