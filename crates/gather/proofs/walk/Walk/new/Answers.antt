use Rattle.std.proofs.lemmas.List.{length-replicate, get_or-replicate}
use Rattle.gather.specs.declared.visit.Visit.{Visit}
use Rattle.gather.specs.declared.visit.Visit.TheVariants.{Unseen}
use Rattle.gather.proofs.Ends.{begin}
use Rattle.gather.proofs.Parts.{Lattice}
use Rattle.gather.proofs.walk.Walk.new.Given as given
use Rattle.gather.proofs.walk.Walk.new.Goals as goal

laws : (g : given.Over) → Lattice g.J.Join.op
laws g = record { idem = g.met.J.Join.idem; comm = g.met.J.Join.comm; assoc = g.met.J.Join.assoc }

pub returns-clause-sound : goal.returns-clause-sound
returns-clause-sound g c = λ targets few. begin (laws g) _ _ _ c.new.ensures (length-replicate {A = Visit} 2304 Unseen) (λ p l. get_or-replicate {A = Visit} 2304 p Unseen Unseen l) few
