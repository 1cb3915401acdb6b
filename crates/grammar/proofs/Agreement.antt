-- Truth values that hold alike are equal, and so are options that give alike.
use Rattle.std.proofs.Common.{◌≡◌, Bool, true, false, sym, refl, ◌∙◌, inl, inr, Option, Some, None}
use Rattle.std.proofs.lemmas.Bool.{cases_Bool}

pub bool_iff : (a b : Bool) → (a ≡ true → b ≡ true) → (b ≡ true → a ≡ true) → a ≡ b
bool_iff true b f g = sym (f refl)
bool_iff false b f g = elim (cases_Bool b) [ inl e ↦ g e ∙ sym e | inr e ↦ sym e ]

pub option_iff : {C : Type 0} (o p : Option C) → ((c : C) → o ≡ Some c → p ≡ Some c) → ((c : C) → p ≡ Some c → o ≡ Some c) → o ≡ p
option_iff (Some c) p f g = sym (f c refl)
option_iff None None f g = refl
option_iff None (Some c) f g = g c refl
