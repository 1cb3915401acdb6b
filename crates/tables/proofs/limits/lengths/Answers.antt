use Rattle.std.proofs.Common.{arith}
use Rattle.grammar.specs.Outcome.{Within}
use Rattle.tables.specs.Admitted.{off_limits}
use Rattle.tables.proofs.SheetArrays.{length_read, lengths_first, lengths_more, too_long}
use Rattle.tables.proofs.limits.lengths.Goals as goal

pub returns-then-terminals-eq0 : goal.returns-then-terminals-eq0
returns-then-terminals-eq0 g c =
    off_limits (λ (W : Within (g.S.RuleSheet.meaning c.args.sheet.now)). omega (arith, W.counts.some_terminal, W.counts.some_nonterminal, W.counts.some_rule))

pub returns-then-terminals-gt63 : goal.returns-then-terminals-gt63
returns-then-terminals-gt63 g c =
    off_limits (λ (W : Within (g.S.RuleSheet.meaning c.args.sheet.now)). omega (arith, W.counts.terminals, W.counts.nonterminals, W.counts.rules))

pub loop-rule-init : goal.loop-rule-init
loop-rule-init g c = lengths_first (g.S.RuleSheet.meaning c.args.sheet.now)

pub returns-then-length-gt8 : goal.returns-then-length-gt8
returns-then-length-gt8 g c =
    let G = g.S.RuleSheet.meaning c.args.sheet.now in
    let r = c.loop-rule.rule in
    let is = length_read G r c.in-Some.length c.length.result (omega arith) c.in-Some.is c.length.ensures in
    off_limits (too_long G r (omega arith) (omega arith) (omega (arith, is)))

pub loop-rule-preserved : goal.loop-rule-preserved
loop-rule-preserved g c =
    let G = g.S.RuleSheet.meaning c.args.sheet.now in
    let r = c.loop-rule.rule in
    let is = length_read G r c.in-Some.length c.length.result (omega arith) c.in-Some.is c.length.ensures in
    let s = c.loop-rule in
    rw c.from.ensures (lengths_more G r c.in-Some.length s.size s.invariant (omega arith) is (omega arith))
