-- Codes of spellings, one after the other.
use Rattle.std.proofs.Common.{◌≡◌, ℕ, List, [], ◌∷◌, map, drop, ap, ◌∙◌, refl, sym}
use Rattle.std.proofs.lemmas.List.{drop-map}
use Rattle.std.specs.Borrow.{Bor}
use Rattle.planlines.specs.TypedLines.{spelled}

pub map_spelled : (f : List ℕ → ℕ) (ts : List (Bor (List ℕ))) → map (λ t. f t.now) ts ≡ map f (spelled ts)
map_spelled f [] = refl
map_spelled f (t ∷ ts) = ap (λ xs. f t.now ∷ xs) (map_spelled f ts)

-- Behind the first part it is the same whether the spellings are taken before or after.
pub codes_spelled : (f : List ℕ → ℕ) (ts : List (Bor (List ℕ))) → map (λ t. f t.now) (drop 1 ts) ≡ map f (drop 1 (spelled ts))
codes_spelled f ts = map_spelled f (drop 1 ts) ∙ ap (map f) (sym (drop-map (λ (t : Bor (List ℕ)). t.now) 1 ts))
