-- The function on forms finds just the rightmost derivations.
use Rattle.std.proofs.Common.{◌≡◌, ℕ, Bool, true, false, cond, ◌&&◌, eqb, leb, List, [], ◌∷◌, ◌++◌, length, sym, refl, ap, ◌∙◌, subst, ap₂, arith, eq-eqb, eqb-true, le-leb, leb-true, Option, Some, None, option_and_then}
use Rattle.std.proofs.lemmas.Option.{same_Some}
use Rattle.std.proofs.lemmas.Bool.{and_parts}
use Rattle.std.proofs.lemmas.List.Elements.{All-nil, All-cons, All-head, All-tail}
use Rattle.grammar.specs.Grammar.{Grammar, IsTerminal, IsRule, IsNonterminal, AllTerminals, Valid, left_side, right_side}
use Rattle.grammar.specs.Derivation.{Rightmost, done, step, is_terminal, is_rule, Cut, cut_at, last_nonterminal, replaced, finished, derive}

module _ (G : Grammar) where
  pub terminal_is : (w : ℕ) → is_terminal G w ≡ true → IsTerminal G w
  terminal_is w e = let p = and_parts (leb 1 w) (leb w G.terminals) e in record { low = leb-true 1 w p.0; high = leb-true w G.terminals p.1 }

  pub is_terminal_lem : (w : ℕ) → IsTerminal G w → is_terminal G w ≡ true
  is_terminal_lem w h = rw (le-leb 1 w h.low, le-leb w G.terminals h.high)

  pub rule_is : (r : ℕ) → is_rule G r ≡ true → IsRule G r
  rule_is r e = let p = and_parts (leb 1 r) (leb r (length G.rules)) e in record { low = leb-true 1 r p.0; high = leb-true r (length G.rules) p.1 }

  is_rule_lem : (r : ℕ) → IsRule G r → is_rule G r ≡ true
  is_rule_lem r h = rw (le-leb 1 r h.low, le-leb r (length G.rules) h.high)

  not_terminal : (X : ℕ) → IsNonterminal G X → is_terminal G X ≡ false
  not_terminal X k = pick (is_terminal G X) refl
    where
      pick : (b : Bool) → is_terminal G X ≡ b → is_terminal G X ≡ false
      pick false e = e
      pick true e = let h = terminal_is X e in absurd (omega (arith, k.low, h.high))

  -- What a cut says of the form.
  abbrev Cuts : List ℕ → Option Cut → Type 0
  Cuts Ys None = AllTerminals G Ys
  Cuts Ys (Some c) = (Ys ≡ c.before ++ c.nonterminal ∷ c.after) × AllTerminals G c.after

  cuts_at : (Y : ℕ) (Ys : List ℕ) (o : Option Cut) → Cuts Ys o → Cuts (Y ∷ Ys) (cut_at G Y Ys o)
  cuts_at Y Ys (Some c) h = (ap (λ l. Y ∷ l) h.0, h.1)
  cuts_at Y Ys None h = pick (is_terminal G Y) refl
    where
      pick : (b : Bool) → is_terminal G Y ≡ b → Cuts (Y ∷ Ys) (cond b None (Some (record { before = []; nonterminal = Y; after = Ys })))
      pick true e = All-cons (IsTerminal G) Y Ys (terminal_is Y e) h
      pick false e = (refl, h)

  cuts : (Ys : List ℕ) → Cuts Ys (last_nonterminal G Ys)
  unfolding last_nonterminal
  cuts [] = All-nil (IsTerminal G)
  cuts (Y ∷ Ys) = cuts_at Y Ys (last_nonterminal G Ys) (cuts Ys)

  last_none : (ws : List ℕ) → AllTerminals G ws → last_nonterminal G ws ≡ None
  unfolding last_nonterminal
  last_none [] h = refl
  last_none (w ∷ ws) h =
      ap (cut_at G w ws) (last_none ws (All-tail (IsTerminal G) w ws h))
      ∙ ap (λ b. cond b None (Some (record { before = []; nonterminal = w; after = ws }))) (is_terminal_lem w (All-head (IsTerminal G) w ws h))

  last_is : (α : List ℕ) (X : ℕ) (us : List ℕ) → is_terminal G X ≡ false → AllTerminals G us → last_nonterminal G (α ++ X ∷ us) ≡ Some (record { before = α; nonterminal = X; after = us })
  unfolding last_nonterminal
  last_is [] X us e h = ap (cut_at G X us) (last_none us h) ∙ ap (λ b. cond b None (Some (record { before = []; nonterminal = X; after = us }))) e
  last_is (Y ∷ α) X us e h = ap (cut_at G Y (α ++ X ∷ us)) (last_is α X us e h)

  derived_done : (form ws : List ℕ) (o : Option Cut) → Cuts form o → finished form o ≡ Some ws → Rightmost G form [] ws
  derived_done form ws None c e = subst (λ l. Rightmost G form [] l) (same_Some _ _ e) (done c)
  derived_done form ws (Some c) k e = cc

  derived_step : (r : ℕ) (rs form ws : List ℕ) (o : Option Cut) → ((f : List ℕ) → derive G rs f ≡ Some ws → Rightmost G f rs ws) → Cuts form o → option_and_then (derive G rs) (replaced G r o) ≡ Some ws → Rightmost G form (r ∷ rs) ws
  derived_step r rs form ws None k c e = cc
  derived_step r rs form ws (Some c) k h e = pick (is_rule G r && eqb c.nonterminal (left_side G r)) refl e
    where
      pick : (b : Bool) → (is_rule G r && eqb c.nonterminal (left_side G r)) ≡ b → option_and_then (derive G rs) (cond b (Some (c.before ++ (right_side G r ++ c.after))) None) ≡ Some ws → Rightmost G form (r ∷ rs) ws
      pick false t e = cc
      pick true t e =
          let p = and_parts (is_rule G r) (eqb c.nonterminal (left_side G r)) t in
          let q : c.nonterminal ≡ left_side G r = eqb-true c.nonterminal (left_side G r) p.1 in
          subst (λ l. Rightmost G l (r ∷ rs) ws) (sym (h.0 ∙ ap (λ X. c.before ++ X ∷ c.after) q)) (step c.before c.after (rule_is r p.0) h.1 (k (c.before ++ (right_side G r ++ c.after)) e))

  pub derived : (rs form ws : List ℕ) → derive G rs form ≡ Some ws → Rightmost G form rs ws
  unfolding derive
  derived [] form ws e = derived_done form ws (last_nonterminal G form) (cuts form) e
  derived (r ∷ rs) form ws e = derived_step r rs form ws (last_nonterminal G form) (λ f d. derived rs f ws d) (cuts form) e

  pub derives : Valid G → {rs form ws : List ℕ} → Rightmost G form rs ws → derive G rs form ≡ Some ws
  unfolding derive
  derives v (done {ws = ws} h) = ap (finished ws) (last_none ws h)
  derives v (step {r = r} {rs = rs} α us i h d) =
      ap (λ o. option_and_then (derive G rs) (replaced G r o)) (last_is α (left_side G r) us (not_terminal (left_side G r) (v.lefts r i)) h)
      ∙ ap (λ b. option_and_then (derive G rs) (cond b (Some (α ++ (right_side G r ++ us))) None)) (ap₂ (λ a b. a && b) (is_rule_lem r i) (eq-eqb (left_side G r) (left_side G r) refl))
      ∙ derives v d
