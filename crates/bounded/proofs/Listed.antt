-- How long a bounded list is.
use Rattle.std.proofs.Common.{◌≡◌, ℕ, ◌≤◌, length, arith}
use Rattle.std.proofs.lemmas.List.{length-take-le}
use Rattle.bounded.specs.BoundedList.{listed}
use Rattle.bounded.specs.declared.bounded_list.BoundedList.{BoundedList}

module _ {T : Type 0} {N : ℕ} (l : BoundedList T N) where
  pub listed_length : length (listed l) ≡ l.count
  listed_length = length-take-le l.count l.items (omega (arith, l.within, l.room))

  pub listed_fits : length (listed l) ≤ N
  listed_fits = let long = listed_length in omega (arith, l.within)
