use Rattle.std.proofs.Common.{rules}
use Rattle.written.proofs.FormFaults.{either_fault}
use Rattle.written.proofs.written.form_fault.Goals as goal

pub returns : goal.returns
returns c = either_fault c.args.text.now c.misplaced.result c.or_else.result c.misplaced.ensures c.or_else.ensures (λ k ts l. search (rules, k))
