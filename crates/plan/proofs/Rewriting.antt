-- A list whose elements are set one after the other, from its front on.
use Rattle.std.proofs.Common.{◌≡◌, ℕ, ◌+◌, ◌<◌, List, length, get_or, set, drop, sym, ◌∙◌, arith}
use mathlib.Core.List.{head-eq_of_cons-eq}
use Rattle.std.proofs.lemmas.List.{drop_more, drop-set-lt}
use Rattle.std.proofs.lemmas.Grind.{drop_more_same}

module _ {X : Type 0} (xs ls : List X) (i : ℕ) (rest : drop i ls ≡ drop i xs) where
  -- The next one is as it was.
  pub next_same : (d : X) → i < length xs → i < length ls → get_or ls i d ≡ get_or xs i d
  next_same d low low' = head-eq_of_cons-eq (sym (drop_more ls i d low') ∙ rest ∙ drop_more xs i d low)

  -- With the next one set, what is left is as it was.
  pub rest_same : (a : X) → drop (i + 1) (set ls i a) ≡ drop (i + 1) xs
  rest_same a = drop-set-lt (i + 1) ls i a (omega arith) ∙ drop_more_same ls xs i rest
