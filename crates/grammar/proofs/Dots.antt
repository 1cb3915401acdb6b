-- The laws of the states, with the right side of a rule split at the dot.
use Rattle.std.proofs.Common.{◌≡◌, ℕ, true, List, [], ◌∷◌, ◌++◌, length, sym, ◌∙◌, subst, append_assoc, append-nil, Option, Some}
use Rattle.grammar.specs.Grammar.{Grammar, IsRule, left_side, right_side}
use Rattle.grammar.specs.Items.{CodeAt}
use Rattle.grammar.specs.States.{Automaton, Laws}
use Rattle.grammar.specs.Lookahead.{Leads, here, onward}
use Rattle.grammar.proofs.ListParts.{get_elem_append, length_snoc}

-- State s has the item (r, d).
abbrev pub Has : Automaton → ℕ → ℕ → ℕ → Type 0
Has A s r d = A.has s r d ≡ true

pub code_at : (G : Grammar) (r : ℕ) {X : ℕ} (α β : List ℕ) → right_side G r ≡ α ++ X ∷ β → CodeAt G r (length α) X
code_at G r {X} α β e = rw e (get_elem_append α X β)

pub leads_snoc : {A : Automaton} {s t u X : ℕ} {Xs : List ℕ} → Leads A s Xs t → A.goto t X ≡ Some u → Leads A s (Xs ++ X ∷ []) u
leads_snoc here g = onward g here
leads_snoc (onward e l) g = onward e (leads_snoc l g)

-- A state moves by a code to one state.
pub one_target : {o : Option ℕ} {t u : ℕ} → o ≡ Some t → o ≡ Some u → t ≡ u
one_target g k = cc

module _ {G : Grammar} {A : Automaton} (L : Laws G A) where
  pub closed_at : {s r q : ℕ} (α β : List ℕ) → Has A s r (length α) → right_side G r ≡ α ++ left_side G q ∷ β → IsRule G q → Has A s q 0
  closed_at {r = r} α β h e i = L.closed h (code_at G r α β e) i

  pub moves_at : {s r X : ℕ} (α β : List ℕ) → Has A s r (length α) → right_side G r ≡ α ++ X ∷ β → (t : ℕ) × (A.goto s X ≡ Some t) × Has A t r (length (α ++ X ∷ []))
  moves_at {s} {r} {X} α β h e =
      let m = L.moves h (code_at G r α β e) in
      (m.0, m.1, subst (λ n. Has A m.0 r n) (sym (length_snoc α X)) m.2)

  -- A state moves by a code only where an item has its dot before it.
  pub item_before : {s t X : ℕ} → A.goto s X ≡ Some t → (r d : ℕ) × CodeAt G r d X × Has A s r d
  item_before g =
      let t = L.target g in
      let c = L.came g t.2 in
      (t.0, t.1, c.0, c.1)

  -- A state that moves by a left side has the rule with the dot in front.
  pub begins : {s t r : ℕ} → IsRule G r → A.goto s (left_side G r) ≡ Some t → Has A s r 0
  begins i g = let j = item_before g in L.closed j.3 j.2 i

  -- Along codes behind the dot.
  pub along_codes : {s t r : ℕ} {β : List ℕ} → Leads A s β t → (α γ : List ℕ) → right_side G r ≡ α ++ (β ++ γ) → Has A s r (length α) → Has A t r (length (α ++ β))
  along_codes {r = r} (here {s = s}) α γ e h = subst (λ l. Has A s r (length l)) (sym (append-nil α)) h
  along_codes {t = t} {r = r} (onward {X = X} {Xs = Xs} g l) α γ e h =
      let m = moves_at α (Xs ++ γ) h e in
      let h' = subst (λ u. Has A u r (length (α ++ X ∷ []))) (one_target m.1 g) m.2 in
      subst (λ k. Has A t r (length k)) (append_assoc α (X ∷ []) Xs) (along_codes l (α ++ X ∷ []) γ (e ∙ sym (append_assoc α (X ∷ []) (Xs ++ γ))) h')
