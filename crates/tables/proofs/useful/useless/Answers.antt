use Rattle.tables.proofs.UselessCodes.{lowest_useless}
use Rattle.tables.proofs.useful.useless.Goals as goal

pub returns : goal.returns
returns c = lowest_useless c.args.rules.now c.productive.result c.used.result c.productive.ensures c.used.ensures c.lowest_unmarked.result c.lowest_unmarked.ensures
