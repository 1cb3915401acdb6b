use Rattle.std.proofs.Common.{arith}
use Rattle.explain.specs.Explanations.{limits, misplaced, unfinished}
use Rattle.explain.proofs.explanation.Explanation.of.Goals as goal

pub returns-in-Form : goal.returns-in-Form
returns-in-Form c = rw (c.in-Form.is, c.of.ensures) (misplaced c.if-place-text.true)

pub returns-in-Form-2 : goal.returns-in-Form-2
returns-in-Form-2 c = rw c.in-Form.is (unfinished {place = c.in-Form.place} (omega arith))

pub returns-in-Limits : goal.returns-in-Limits
returns-in-Limits c = rw c.in-Limits.is limits
