use Rattle.std.proofs.Common.{◌<◌, rules}
use Rattle.std.proofs.lemmas.List.Elements.{All-same}
use Rattle.tables.proofs.RuleArrays.{codes_below}
use Rattle.tables.proofs.rules.Rules.codes.Goals as goal

pub returns-clause-below : goal.returns-clause-below
returns-clause-below c = All-same (λ code. code < 88) _ _ (search rules) (codes_below c.args.self.now c.args.r)
