use Rattle.std.proofs.Common.{arith}
use Rattle.tables.proofs.UsedMarks.{used_marks}
use Rattle.tables.proofs.useful.used.Goals as goal

pub returns : goal.returns
returns c = used_marks c.args.rules.now c.start_mark-marks.result c.start_mark-marks.ensures c.gather-gathered.new.values (c.gather-gathered.ensures.gathered (omega arith)).1
