-- What a bounded list holds.
use Rattle.std.specs.Prelude.{ℕ, List, take}
use Rattle.bounded.specs.declared.bounded_list.BoundedList.{BoundedList}

abbrev pub listed : {T : Type 0} {N : ℕ} → BoundedList T N → List T
listed l = take l.count l.items
