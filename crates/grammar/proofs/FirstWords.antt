-- The first word of a forest can be read in the state where its codes stand behind a dot.
use Rattle.std.proofs.Common.{◌≡◌, ℕ, List, [], ◌∷◌, ◌++◌, length, sym, refl, ap, ◌∙◌, append_assoc, Some}
use Rattle.std.proofs.lemmas.List.Elements.{All-nil, All-cons}
use Rattle.grammar.specs.Grammar.{Grammar, IsNonterminal, IsRule, Valid, left_side, right_side}
use Rattle.grammar.specs.Trees.{Forest, empty, leaf, node, Nullable, AllNullable}
use Rattle.grammar.specs.States.{Automaton, Laws}
use Rattle.grammar.specs.Lookahead.{stop, go, Direct, next_word, Reads, Read}
use Rattle.grammar.proofs.Forests.{tree, nullable_nonterminal}
use Rattle.grammar.proofs.Dots.{Has, closed_at, moves_at}

module _ (G : Grammar) (A : Automaton) where
  -- What can be read in a state: a direct word there, or one behind nullable codes.
  pub data Readable : ℕ → ℕ → Type 0 where
    at_once : {t w : ℕ} → Direct G A t w → Readable t w
    later : {t X u w : ℕ} → A.goto t X ≡ Some u → Nullable G X → Readable u w → Readable t w

  -- The words of a forest behind a dot: none, and its codes are nullable; or the first can be read.
  pub data First (t : ℕ) (Xs ws : List ℕ) : Type 0 where
    no_word : ws ≡ [] → AllNullable G Xs → First t Xs ws
    a_word : (w : ℕ) (vs : List ℕ) → ws ≡ w ∷ vs → Readable t w → First t Xs ws

module _ {G : Grammar} {A : Automaton} where
  -- What can be read behind a transition is in its read set.
  pub read_of : Valid G → {t w : ℕ} → Readable G A t w → {p X : ℕ} → IsNonterminal G X → A.goto p X ≡ Some t → Read G A (p, X) w
  read_of v {t} (at_once d) {p} {X} n g = record { last = (p, X); steps = stop; is_transition = record { nonterminal = n; to = t; move = g }; direct = d }
  read_of v {t} (later {X = Y} {u = u} e k r) {p} {X} n g =
      let m = nullable_nonterminal v k in
      let s = read_of v r m e in
      let one : Reads G A (p, X) (t, Y) = record { from = record { nonterminal = n; to = t; move = g }; to = record { nonterminal = m; to = u; move = e }; move = g; nullable = k } in
      record { last = s.last; steps = go one s.steps; is_transition = s.is_transition; direct = s.direct }

  first_node : {t u r : ℕ} {Xs ws vs ps : List ℕ} → IsRule G r → Forest G (right_side G r) ws ps → A.goto t (left_side G r) ≡ Some u → First G A t (right_side G r) ws → First G A u Xs vs → First G A t (left_side G r ∷ Xs) (ws ++ vs)
  first_node {vs = vs} i f g (a_word w ws' e d) y = a_word w (ws' ++ vs) (ap (λ l. l ++ vs) e) d
  first_node {r = r} {Xs = Xs} {vs = vs} {ps = ps} i f g (no_word e n) (no_word e' n') =
      no_word (ap (λ l. l ++ vs) e ∙ e') (All-cons (Nullable G) (left_side G r) Xs (ps ++ r ∷ [], tree i (rw e at f)) n')
  first_node {r = r} {vs = vs} {ps = ps} i f g (no_word e n) (a_word w vs' e' d) = a_word w vs' (ap (λ l. l ++ vs) e ∙ e') (later g (ps ++ r ∷ [], tree i (rw e at f)) d)

  pub first : Laws G A → {Xs ws ps : List ℕ} → Forest G Xs ws ps → (α : List ℕ) {t r : ℕ} → Has A t r (length α) → right_side G r ≡ α ++ Xs → First G A t Xs ws
  first L empty α h e = no_word refl (All-nil (Nullable G))
  first L (leaf {Xs = Xs} {ws = ws} w f) α h e = a_word _ ws refl (at_once (next_word w (moves_at L α Xs h e).1))
  first L (node {r = r} {Xs = Xs} i f g) α h e =
      let m = moves_at L α Xs h e in
      first_node i f m.1 (first L f [] (closed_at L α Xs h e i) refl) (first L g (α ++ left_side G r ∷ []) m.2 (e ∙ sym (append_assoc α (left_side G r ∷ []) Xs)))
