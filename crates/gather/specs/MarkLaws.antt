-- Marks obey the laws of a join.
use Rattle.std.specs.Prelude.{◌≡◌, Bool, refl}
use Rattle.std.proofs.Math.Bool.{or_self, or_comm, or_assoc}
use Rattle.std.proofs.Common.{ap}
use Rattle.gather.specs.Marks.{no_mark, either_mark}
use Rattle.gather.specs.declared.mark.Mark.{Mark}

abbrev mark_of : Bool → Mark
mark_of b = record { 0 = b }

pub either_none : (a : Mark) → either_mark no_mark a ≡ a
either_none a = refl

pub either_self : (a : Mark) → either_mark a a ≡ a
either_self a = ap mark_of (or_self a.0)

pub either_comm : (a b : Mark) → either_mark a b ≡ either_mark b a
either_comm a b = ap mark_of (or_comm a.0 b.0)

pub either_assoc : (a b c : Mark) → either_mark (either_mark a b) c ≡ either_mark a (either_mark b c)
either_assoc a b c = ap mark_of (or_assoc a.0 b.0 c.0)
