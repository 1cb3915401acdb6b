-- Lists of turns with one turn more, and their accounts.
use Rattle.std.proofs.Common.{◌≡◌, List, [], ◌∷◌, ◌++◌, sym, refl, ap, ap₂}
use mathlib.Core.List.{head-eq_of_cons-eq, tail-eq_of_cons-eq, nil≢cons}
use Rattle.plan.specs.Turns.{Turn}
use Rattle.plan.specs.Account.{Account, after_turn, after_turns}

pub account_more : (a : Account) (ts : List Turn) (t : Turn) → after_turns a (ts ++ t ∷ []) ≡ after_turn (after_turns a ts) t
account_more a [] t = refl
account_more a (u ∷ ts) t = account_more (after_turn a u) ts t

-- A turn of a list with one turn more is that one, or one of the list.
pub data Found (ts before : List Turn) (t u : Turn) : Type 0 where
  last : before ≡ ts → u ≡ t → Found ts before t u
  earlier : (after : List Turn) → ts ≡ before ++ u ∷ after → Found ts before t u

pub no_turns_lem : (before after : List Turn) (u : Turn) → [] ≡ before ++ u ∷ after → ⊥
no_turns_lem [] after u e = nil≢cons e
no_turns_lem (b ∷ before) after u e = nil≢cons e

one_back : {ts before : List Turn} {t u : Turn} (a b : Turn) → a ≡ b → Found ts before t u → Found (a ∷ ts) (b ∷ before) t u
one_back a b e (last p q) = last (ap₂ (λ x l. x ∷ l) (sym e) p) q
one_back a b e (earlier after p) = earlier after (ap₂ (λ x l. x ∷ l) e p)

pub found : (ts : List Turn) (t : Turn) (before after : List Turn) (u : Turn) → ts ++ t ∷ [] ≡ before ++ u ∷ after → Found ts before t u
found [] t [] after u e = last refl (sym (head-eq_of_cons-eq e))
found [] t (b ∷ before) after u e = absurd (no_turns_lem before after u (tail-eq_of_cons-eq e))
found (a ∷ ts) t [] after u e = earlier ts (ap (λ x. x ∷ ts) (head-eq_of_cons-eq e))
found (a ∷ ts) t (b ∷ before) after u e = one_back a b (head-eq_of_cons-eq e) (found ts t before after u (tail-eq_of_cons-eq e))
