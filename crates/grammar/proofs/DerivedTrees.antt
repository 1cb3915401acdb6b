-- Rightmost derivations are the post-order lists of trees, reversed.
use Rattle.std.proofs.Common.{◌≡◌, ℕ, List, [], ◌∷◌, ◌++◌, reverse, sym, refl, ap, ◌∙◌, subst, subst₂, append_assoc, append-nil, arith}
use Rattle.std.proofs.lemmas.List.Elements.{All-nil, All-head, All-tail, All-append}
use mathlib.Core.List.{reverse-cons, reverse-append}
use Rattle.grammar.specs.Grammar.{Grammar, IsTerminal, IsRule, AllTerminals, Valid, left_side, right_side}
use Rattle.grammar.specs.Trees.{Forest, empty, leaf, node}
use Rattle.grammar.specs.Derivation.{Rightmost, done, step}
use Rattle.grammar.proofs.Forests.{join, Split, split, leaves, terminals_of}

reverse_node : (ps : List ℕ) (r : ℕ) (qs rs : List ℕ) → reverse (ps ++ r ∷ qs) ++ rs ≡ reverse qs ++ r ∷ (reverse ps ++ rs)
reverse_node ps r qs rs =
    ap (λ l. l ++ rs) (reverse-append ps (r ∷ qs) ∙ ap (λ l. l ++ reverse ps) (reverse-cons r qs))
    ∙ append_assoc (reverse qs ++ r ∷ []) (reverse ps) rs
    ∙ append_assoc (reverse qs) (r ∷ []) (reverse ps ++ rs)

last_rule : (a b c : List ℕ) (r : ℕ) → c ≡ [] → (a ++ (b ++ c)) ++ r ∷ [] ≡ a ++ (b ++ r ∷ c)
last_rule a b c r e = rw e (simp (append-nil, append_assoc))

module _ {G : Grammar} where
  -- The trees of a forest by rightmost steps, the last tree first.
  expand : {Xs ws ps : List ℕ} → Forest G Xs ws ps → (α us : List ℕ) {rs vs : List ℕ} → AllTerminals G us → Rightmost G (α ++ (ws ++ us)) rs vs → Rightmost G (α ++ (Xs ++ us)) (reverse ps ++ rs) vs
  expand empty α us h d = d
  expand (leaf {w = w} {Xs = Xs} {ws = ws} {ps = ps} b f) α us {rs} {vs} h d =
      rw append_assoc at (expand f (α ++ w ∷ []) us h (rw (← append_assoc α (w ∷ []) (ws ++ us)) at d))
  expand (node {r = r} {Xs = Xs} {ws = ws} {vs = ws'} {ps = ps} {qs = qs} i f g) α us {rs} {vs} h d =
      let k = All-append (IsTerminal G) ws' us (terminals_of g) h in
      let x = expand f α (ws' ++ us) k (rw (append_assoc ws ws' us) at d) in
      let y = step α (ws' ++ us) i k x in
      let z = expand g (α ++ left_side G r ∷ []) us h (rw (← append_assoc α (left_side G r ∷ []) (ws' ++ us)) at y) in
      subst₂ (λ a b. Rightmost G a b vs) (append_assoc α (left_side G r ∷ []) (Xs ++ us)) (sym (reverse_node ps r qs rs)) z

  pub rightmost_of : {Xs ws ps : List ℕ} → Forest G Xs ws ps → Rightmost G Xs (reverse ps) ws
  rightmost_of {Xs} {ws} {ps} f =
      let d = subst (λ l. Rightmost G l [] ws) (sym (append-nil ws)) (done (terminals_of f)) in
      subst₂ (λ a b. Rightmost G a b ws) (append-nil Xs) (append-nil (reverse ps)) (expand f [] [] (All-nil (IsTerminal G)) d)

  -- A forest of terminals has no rule.
  no_rules : Valid G → {Xs ws ps : List ℕ} → Forest G Xs ws ps → AllTerminals G Xs → ps ≡ []
  no_rules v empty h = refl
  no_rules v (leaf {w = w} {Xs = Xs} b f) h = no_rules v f (All-tail (IsTerminal G) w Xs h)
  no_rules v (node {r = r} {Xs = Xs} i f g) h = absurd (omega (arith, (v.lefts r i).low, (All-head (IsTerminal G) (left_side G r) Xs h).high))

  forest_step : Valid G → (α us rs : List ℕ) {r : ℕ} {ws : List ℕ} → IsRule G r → AllTerminals G us → (s : Split G α (right_side G r ++ us) ws (reverse rs)) → Split G (right_side G r) us s.words_back s.rules_back → Forest G (α ++ left_side G r ∷ us) ws (reverse (r ∷ rs))
  forest_step v α us rs {r} {ws} i h s t =
      subst₂ (λ a b. Forest G (α ++ left_side G r ∷ us) a b)
      (sym (s.words_are ∙ ap (λ l. s.words_front ++ l) t.words_are))
      (sym (last_rule s.rules_front t.rules_front t.rules_back r (no_rules v t.back h)) ∙ ap (λ l. l ++ r ∷ []) (sym (s.rules_are ∙ ap (λ l. s.rules_front ++ l) t.rules_are)) ∙ sym (reverse-cons r rs))
      (join s.front (node i t.front t.back))

  pub forest_of : Valid G → {Xs rs ws : List ℕ} → Rightmost G Xs rs ws → Forest G Xs ws (reverse rs)
  forest_of v (done h) = leaves _ h
  forest_of v (step {r = r} {rs = rs} α us i h d) =
      let s = split α (right_side G r ++ us) (forest_of v d) refl in
      forest_step v α us rs i h s (split (right_side G r) us s.back refl)
