use Rattle.sheet.proofs.OffLayout.{layout_laws}
use Rattle.sheet.proofs.packed.layout_laws.Goals as goal

pub returns-clause-laws : goal.returns-clause-laws
returns-clause-laws c = layout_laws
