-- Walks along codes, and ways to cut a list at one of its codes.
use Rattle.std.proofs.Common.{◌≡◌, ℕ, Bool, true, false, ◌||◌, ◌⊎◌, List, [], ◌∷◌, ◌++◌, refl, ap, ◌∙◌, subst, inl, inr, Option, Some, None, option_and_then}
use Rattle.std.proofs.lemmas.Option.{same_Some}
use mathlib.Core.Bool.{false≢true}
use Rattle.std.proofs.lemmas.Bool.{or_cases, or_left, or_right}
use Rattle.grammar.specs.States.{Automaton}
use Rattle.grammar.specs.Lookahead.{Leads, here, onward}

-- The state to which codes lead.
abbrev pub walk : Automaton → ℕ → List ℕ → Option ℕ
walk A s [] = Some s
walk A s (X ∷ Xs) = option_and_then (λ u. walk A u Xs) (A.goto s X)

module _ (A : Automaton) where
  pub leads_to : {s u : ℕ} {Xs : List ℕ} → Leads A s Xs u → walk A s Xs ≡ Some u
  leads_to here = refl
  leads_to (onward {Xs = Xs} g l) = ap (option_and_then (λ v. walk A v Xs)) g ∙ leads_to l

  pub leads_from : (Xs : List ℕ) (s u : ℕ) → walk A s Xs ≡ Some u → Leads A s Xs u
  leads_from [] s u h = subst (Leads A s []) (same_Some _ _ h) here
  leads_from (X ∷ Xs) s u h = pick (A.goto s X) refl h (leads_from Xs)
    where
      pick : (o : Option ℕ) → A.goto s X ≡ o → option_and_then (λ v. walk A v Xs) o ≡ Some u → ((v w : ℕ) → walk A v Xs ≡ Some w → Leads A v Xs w) → Leads A s (X ∷ Xs) u
      pick None e g k = cc
      pick (Some v) e g k = onward e (k v u g)

-- The test passes at some code of the list, with the codes before it and behind it.
abbrev pub any_cut : (List ℕ → ℕ → List ℕ → Bool) → List ℕ → Bool
any_cut f [] = false
any_cut f (X ∷ Xs) = f [] X Xs || any_cut (λ β Y γ. f (X ∷ β) Y γ) Xs

pub record CutAt (f : List ℕ → ℕ → List ℕ → Bool) (Xs : List ℕ) : Type 0 where
  pub before : List ℕ
  pub code : ℕ
  pub after : List ℕ
  pub is : Xs ≡ before ++ code ∷ after
  pub passes : f before code after ≡ true

pub cut_at : (Xs : List ℕ) (f : List ℕ → ℕ → List ℕ → Bool) → any_cut f Xs ≡ true → CutAt f Xs
cut_at [] f h = absurd (false≢true h)
cut_at (X ∷ Xs) f h = pick (or_cases (f [] X Xs) _ h) (cut_at Xs (λ β Y γ. f (X ∷ β) Y γ))
  where
    pick : (f [] X Xs ≡ true) ⊎ (any_cut (λ β Y γ. f (X ∷ β) Y γ) Xs ≡ true) → (any_cut (λ β Y γ. f (X ∷ β) Y γ) Xs ≡ true → CutAt (λ β Y γ. f (X ∷ β) Y γ) Xs) → CutAt f (X ∷ Xs)
    pick (inl e) k = record { before = []; code = X; after = Xs; is = refl; passes = e }
    pick (inr e) k = let c = k e in record { before = X ∷ c.before; code = c.code; after = c.after; is = ap (λ l. X ∷ l) c.is; passes = c.passes }

pub cut_from : (β : List ℕ) (Y : ℕ) (γ : List ℕ) (f : List ℕ → ℕ → List ℕ → Bool) → f β Y γ ≡ true → any_cut f (β ++ Y ∷ γ) ≡ true
cut_from [] Y γ f h = or_left (f [] Y γ) _ h
cut_from (X ∷ β) Y γ f h = or_right (f [] X (β ++ Y ∷ γ)) _ (cut_from β Y γ (λ δ Z ε. f (X ∷ δ) Z ε) h)
