-- What an answer says of the option that it tells.
use Rattle.std.proofs.Common.{◌≡◌, ℕ, true, false, is_some, Some, None, Option}
use Rattle.std.proofs.lemmas.Bool.{true≢false, false≢true}

pub told_some : (o : Option ℕ) (g : Option ℕ) → o ≡ g → true ≡ is_some o → (t : ℕ) × (Some t ≡ g)
told_some None g e h = absurd (true≢false h)
told_some (Some t) g e h = (t, e)

pub told_none : (o : Option ℕ) (g : Option ℕ) → o ≡ g → false ≡ is_some o → None ≡ g
told_none None g e h = e
told_none (Some t) g e h = absurd (false≢true h)
