use Rattle.std.proofs.Common.{◌≡◌, suc, ◌+◌, ◌-◌, ◌<◌, length, rules, get_or, ap, subst, arith}
use Rattle.grammar.specs.Outcome.{InRange}
use Rattle.tables.specs.Admitted.{Unread, out_of_range}
use Rattle.tables.specs.BuildRefusals.{told}
use Rattle.tables.specs.SheetArrays.{Sides, Lengths}
use Rattle.tables.proofs.SheetArrays.{left_read}
use Rattle.tables.proofs.SheetRules.{sides_first, sides_more, lowest, kept, read_grammar}
use Rattle.tables.proofs.limits.sides.Goals as goal

pub loop-rule-init : goal.loop-rule-init
loop-rule-init g c = sides_first (g.S.RuleSheet.meaning c.args.sheet.now) c.terminals-terminals.result c.terminals-terminals.ensures

pub returns-then-side-terminals : goal.returns-then-side-terminals
returns-then-side-terminals g c =
    let G = g.S.RuleSheet.meaning c.args.sheet.now in
    let r = c.loop-rule.rule in
    let is = left_read G r c.in-Some.side c.left.result (omega arith) c.in-Some.is c.left.ensures in
    out_of_range c.requires.within (lowest G r c.loop-rule.left c.loop-rule.right c.loop-rule.invariant (omega arith) (omega arith) λ range. omega (arith, range.left.low, range.left.high, is))

pub returns-in_err-codes : goal.returns-in_err-codes
returns-in_err-codes g c =
    let G = g.S.RuleSheet.meaning c.args.sheet.now in
    let s = c.loop-rule in
    let e = c.in_err-codes in
    let off : InRange G s.rule → ⊥ = λ range. e.ensures.1 range.right in
    let low = lowest G s.rule s.left s.right s.invariant (omega arith) (omega arith) off in
    let is : Unread G (told e.field-0.0) = rw e.ensures.0 (out_of_range c.requires.within low) in
    search rules

pub loop-rule-preserved : goal.loop-rule-preserved
loop-rule-preserved g c =
    let G = g.S.RuleSheet.meaning c.args.sheet.now in
    let r = c.loop-rule.rule in
    let b : r < suc (length G.rules) = omega arith in
    let is = left_read G r c.in-Some.side c.left.result (omega arith) c.in-Some.is c.left.ensures in
    let same = ap (λ i. get_or c.args.size i 0) c.from-r.ensures in
    rw c.from-r.ensures (sides_more G r c.in-Some.side _ c.loop-rule.left c.loop-rule.right c.codes.new.right c.loop-rule.invariant (omega arith) (omega (arith, c.requires.within.counts.rules)) is
    (record { low = omega arith; high = omega arith })
    (omega (arith, c.requires.lengths.short r b, same)) (omega (arith, c.requires.lengths.below r b, same)) c.in_ok-codes.ensures.0 c.in_ok-codes.ensures.1)

pub invariant_of-result : goal.invariant_of-result
invariant_of-result g c =
    let G = g.S.RuleSheet.meaning c.args.sheet.now in
    let W = c.requires.within in
    let t = c.terminals-terminals.result in
    let k = (c.terminals-terminals.result + c.nonterminals.result) - c.terminals-terminals.result in
    let p = c.rules.result in
    let kn : k ≡ G.nonterminals = omega arith in
    let last : c.loop-rule.rule ≡ suc p = omega arith in
    let m : Lengths G (suc p) c.args.size = subst (λ n. Lengths G n c.args.size) (let e : suc (length G.rules) ≡ suc p = omega arith in e) c.requires.lengths in
    let f : Sides G (suc p) c.loop-rule.left c.loop-rule.right = subst (λ n. Sides G n c.loop-rule.left c.loop-rule.right) last c.loop-rule.invariant in
    let q = kept G W t k p c.terminals-terminals.ensures kn c.rules.ensures c.args.size c.loop-rule.left c.loop-rule.right m f in
    record {
      terminals1 = omega (arith, W.counts.some_terminal);
      terminals63 = omega (arith, W.counts.terminals);
      nonterminals1 = omega (arith, W.counts.some_nonterminal);
      nonterminals24 = omega (arith, W.counts.nonterminals);
      count1 = omega (arith, W.counts.some_rule);
      count96 = omega (arith, W.counts.rules);
      leftlength = f.left_places;
      sizelength = m.places;
      rightlength = f.right_places;
      short = q.short;
      lefts = q.lefts;
      leftsbelow = q.leftsbelow;
      inside = q.inside;
      ended = q.ended;
      past = q.past;
      below = q.below;
      firstsize = q.firstsize;
      firstcode = q.firstcode;
    }

pub returns : goal.returns
returns g c =
    let G = g.S.RuleSheet.meaning c.args.sheet.now in
    let p = c.rules.result in
    let last : c.loop-rule.rule ≡ suc p = omega (arith, c.loop-rule.auto.rule-end (omega arith)) in
    read_grammar G _ c.terminals-terminals.ensures (omega arith) c.rules.ensures
    (subst (λ n. Lengths G n c.args.size) (let e : suc (length G.rules) ≡ suc p = omega arith in e) c.requires.lengths)
    (subst (λ n. Sides G n c.loop-rule.left c.loop-rule.right) last c.loop-rule.invariant)
