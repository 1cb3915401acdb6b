-- Walks from state to state along a list of codes.
use Rattle.std.proofs.Common.{◌≡◌, ℕ, zero, suc, ◌<◌, List, [], ◌∷◌, take, sym, refl, subst, arith, Some, slice_get}
use Rattle.std.proofs.lemmas.Option.{none-some, same_Some}
use Rattle.grammar.specs.States.{Automaton}
use Rattle.grammar.specs.Lookahead.{Leads, here, onward}
use Rattle.grammar.proofs.Dots.{leads_snoc, one_target}
use Rattle.grammar.proofs.ListParts.{take_suc_at}

-- A code leads on from a state.
pub record Further (A : Automaton) (s X : ℕ) : Type 0 where
  pub to : ℕ
  pub move : A.goto s X ≡ Some to

module _ {A : Automaton} where
  -- A walk ends in one state.
  pub leads_once : {s t u : ℕ} {Xs : List ℕ} → Leads A s Xs t → Leads A s Xs u → t ≡ u
  leads_once here here = refl
  leads_once {t = t} (onward {X = X} {Xs = Xs} e l) (onward f m) = leads_once (subst (λ v. Leads A v Xs t) (one_target e f) l) m

  -- One code further.
  pub leads_on : {s t u X : ℕ} (l : List ℕ) (d : ℕ) → slice_get l d ≡ Some X → Leads A s (take d l) t → A.goto t X ≡ Some u → Leads A s (take (suc d) l) u
  leads_on {s} {u = u} l d k w e = subst (λ m. Leads A s m u) (sym (take_suc_at l d _ k)) (leads_snoc w e)

  -- A walk over more codes goes on by the code at each place.
  pub further : {s t u X : ℕ} (l : List ℕ) (d e : ℕ) → d < e → slice_get l d ≡ Some X → Leads A s (take d l) t → Leads A s (take e l) u → Further A t X
  further [] d e h k w v = absurd (none-some _ k)
  further (Y ∷ l) d zero h k w v = absurd (omega arith)
  further {s} {X = X} (Y ∷ l) zero (suc e) h k here (onward {t = b} f v) = record { to = b; move = subst (λ Z. A.goto s Z ≡ Some b) (same_Some Y X k) f }
  further {t = t} (Y ∷ l) (suc d) (suc e) h k (onward f w) (onward g v) = further l d e (omega arith) k (subst (λ a. Leads A a (take d l) t) (one_target f g) w) v
