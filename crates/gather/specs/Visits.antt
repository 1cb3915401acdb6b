-- Visits of places.
use Rattle.std.specs.Prelude.{ℕ, ◌+◌, min, Bool, true, false}
use Rattle.gather.specs.declared.visit.Visit.{Visit}
use Rattle.gather.specs.declared.visit.Visit.TheVariants.{Unseen, Open, Done}

abbrev pub is_unseen : Visit → Bool
is_unseen Unseen = true
is_unseen (Open low) = false
is_unseen Done = false

-- The place of a kind in the order.
abbrev pub kind : Visit → ℕ
kind Unseen = 0
kind (Open low) = 1
kind Done = 2

-- The lower of two.
abbrev pub lower : Visit → Visit → Visit
lower Unseen w = Unseen
lower (Open a) Unseen = Unseen
lower (Open a) (Open b) = Open (min a b)
lower (Open a) Done = Open a
lower Done w = w

-- Their order in numbers: 0 for a place not seen, one more than the height that an open one reaches, and 2305, above every height, for one that is done.
abbrev pub rank : Visit → ℕ
rank Unseen = 0
rank (Open low) = low + 1
rank Done = 2305
