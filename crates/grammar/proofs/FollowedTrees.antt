-- The machine follows every tree, so it accepts every sentence with the rules of its tree.
use Rattle.std.proofs.Common.{◌≡◌, ℕ, List, [], ◌∷◌, ◌++◌, length, drop, sym, refl, ap, ◌∙◌, subst, append_assoc, Some}
use Rattle.grammar.specs.Grammar.{Grammar, IsNonterminal, IsRule, Valid, left_side, right_side, start}
use Rattle.grammar.specs.Trees.{Forest, empty, leaf, node, TreeOf}
use Rattle.grammar.specs.States.{Automaton, Laws}
use Rattle.grammar.specs.Lookahead.{stop, go, Leads, here, onward, next_end, Includes, Follow, Lookahead}
use Rattle.grammar.specs.Cells.{may_shift, may_accept, may_reduce}
use Rattle.grammar.specs.Machine.{Run, halt, shift, reduce, accept, AcceptsWords}
use Rattle.grammar.proofs.ListParts.{drop_suc}
use Rattle.grammar.proofs.Forests.{Root, root}
use Rattle.grammar.proofs.Dots.{Has, closed_at, moves_at, leads_snoc}
use Rattle.grammar.proofs.FirstWords.{First, no_word, a_word, first, at_once, read_of}
use Rattle.grammar.proofs.Runs.{then, then_accepts}

-- Rule 0 has the start on its right.
pub right_of_0 : (G : Grammar) → right_side G 0 ≡ start G ∷ []
unfolding right_side
right_of_0 G = refl

module _ {G : Grammar} {A : Automaton} (v : Valid G) (L : Laws G A) where
  -- The machine has followed a forest of Xs from state p on the stack σ, and sees w and then z.
  record Followed (p : ℕ) (σ Xs ws ps : List ℕ) (w : ℕ) (z : List ℕ) : Type 0 where
    top : ℕ
    below : List ℕ
    leads : Leads A p Xs top
    taken_off : drop (length Xs) (top ∷ below) ≡ p ∷ σ
    run : Run G A (p ∷ σ) (ws ++ w ∷ z) ps (top ∷ below) (w ∷ z)

  -- What the machine sees behind a tree of X in state p: the first of the words vs, or else w.
  record Seen (p X : ℕ) (vs : List ℕ) (w : ℕ) (z : List ℕ) : Type 0 where
    word : ℕ
    rest : List ℕ
    is : vs ++ w ∷ z ≡ word ∷ rest
    follow : Follow G A (p, X) word

  seen : {p X t q r u w : ℕ} {α Xs vs : List ℕ} (z : List ℕ) → IsNonterminal G X → A.goto p X ≡ Some t → First G A t Xs vs → IsRule G r → right_side G r ≡ α ++ X ∷ Xs → Leads A q α p → A.goto q (left_side G r) ≡ Some u → Follow G A (q, left_side G r) w → Seen p X vs w z
  seen {p} {X} {w = w} z n g (a_word b vs' e d) i s l k f = record { word = b; rest = vs' ++ w ∷ z; is = ap (λ m. m ++ w ∷ z) e; follow = record { last = (p, X); steps = stop; read = read_of v d n g } }
  seen {p} {X} {t} {q} {r} {u} {w} {α} {Xs} z n g (no_word e ns) i s l k f =
      let one : Includes G A (p, X) (q, left_side G r) =
      record {
        from = record { nonterminal = n; to = t; move = g };
        to = record { nonterminal = v.lefts r i; to = u; move = k };
        rule = r;
        before = α;
        after = Xs;
        is_rule = i;
        is_left = refl;
        is_right = s;
        nullables = ns;
        leads = l;
      } in
      record { word = w; rest = z; is = ap (λ m. m ++ w ∷ z) e; follow = record { last = f.last; steps = go one f.steps; read = f.read } }

  -- A tree followed and reduced, and then the forest beside it.
  follow_node : {p t o w : ℕ} {σ Xs ws vs ps qs z : List ℕ} → IsRule G o → A.goto p (left_side G o) ≡ Some t → (s : Seen p (left_side G o) vs w z) → Followed p σ (right_side G o) ws ps s.word s.rest → Followed t (p ∷ σ) Xs vs qs w z → Followed p σ (left_side G o ∷ Xs) (ws ++ vs) (ps ++ o ∷ qs) w z
  follow_node {p} {t} {o} {w} {σ} {Xs} {ws} {vs} {ps} {qs} {z} i g s x y =
      record {
        top = y.top;
        below = y.below;
        leads = onward g y.leads;
        taken_off = drop_suc (length Xs) (y.top ∷ y.below) y.taken_off;
        run = subst (λ l. Run G A (p ∷ σ) l (ps ++ o ∷ qs) (y.top ∷ y.below) (w ∷ z)) input (then x.run (reduce (may_reduce i ahead) x.taken_off g (rw s.is at y.run)));
      }
    where
      ahead : Lookahead G A x.top o s.word
      ahead = record { back = p; leads = x.leads; follow = s.follow }

      input : ws ++ s.word ∷ s.rest ≡ (ws ++ vs) ++ w ∷ z
      input = ap (λ l. ws ++ l) (sym s.is) ∙ sym (append_assoc ws vs (w ∷ z))

  follow_forest : {Xs ws ps : List ℕ} → Forest G Xs ws ps → (α : List ℕ) {p q r u w : ℕ} (σ z : List ℕ) → IsRule G r → Has A p r (length α) → right_side G r ≡ α ++ Xs → Leads A q α p → A.goto q (left_side G r) ≡ Some u → Follow G A (q, left_side G r) w → Followed p σ Xs ws ps w z
  follow_forest empty α {p} σ z i h e l k f = record { top = p; below = σ; leads = here; taken_off = refl; run = halt }
  follow_forest (leaf {w = a} {Xs = Xs} b x) α {p} σ z i h e l k f =
      let m = moves_at L α Xs h e in
      let y = follow_forest x (α ++ a ∷ []) (p ∷ σ) z i m.2 (e ∙ sym (append_assoc α (a ∷ []) Xs)) (leads_snoc l m.1) k f in
      record {
        top = y.top;
        below = y.below;
        leads = onward m.1 y.leads;
        taken_off = drop_suc (length Xs) (y.top ∷ y.below) y.taken_off;
        run = shift (may_shift b m.1) y.run;
      }
  follow_forest (node {r = o} {Xs = Xs} b x y) α {p} σ z i h e l k f =
      let m = moves_at L α Xs h e in
      let e' = e ∙ sym (append_assoc α (left_side G o ∷ []) Xs) in
      let s = seen z (v.lefts o b) m.1 (first L y (α ++ left_side G o ∷ []) m.2 e') i e l k f in
      follow_node b m.1 s
      (follow_forest x [] σ s.rest b (closed_at L α Xs h e b) refl here m.1 s.follow)
      (follow_forest y (α ++ left_side G o ∷ []) (p ∷ σ) z i m.2 e' (leads_snoc l m.1) k f)

  accept_root : {ws ps : List ℕ} → Root G (start G) ws ps → AcceptsWords G A ws ps
  accept_root {ws} {ps} o =
      let m = moves_at L [] [] L.first first_right in
      let f : Follow G A (0, left_side G o.rule) 0 = record { last = (0, left_side G o.rule); steps = stop; read = read_of v (at_once (next_end m.2)) (v.lefts o.rule o.is_rule) m.1 } in
      let x = follow_forest o.forest [] [] [] o.is_rule (closed_at L [] [] L.first first_right o.is_rule) refl here m.1 f in
      let ahead : Lookahead G A x.top o.rule 0 = record { back = 0; leads = x.leads; follow = f } in
      subst (λ l. AcceptsWords G A ws l) (sym o.all)
      (then_accepts x.run (reduce (may_reduce o.is_rule ahead) x.taken_off m.1 (accept (may_accept m.2))))
    where
      first_right : right_side G 0 ≡ left_side G o.rule ∷ []
      first_right = right_of_0 G ∙ ap (λ X. X ∷ []) (sym o.is_left)

  pub complete : {ws ps : List ℕ} → TreeOf G ws ps → AcceptsWords G A ws ps
  complete f = accept_root (root f)
