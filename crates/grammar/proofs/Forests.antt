-- Forests joined and split, and the root of a tree.
use Rattle.std.proofs.Common.{◌≡◌, ℕ, List, [], ◌∷◌, ◌++◌, sym, refl, ap, ◌∙◌, subst, ap₂, append_assoc, append-nil, arith}
use Rattle.std.proofs.lemmas.List.Elements.{All-nil, All-cons, All-head, All-tail, All-append}
use mathlib.Core.List.{head-eq_of_cons-eq, tail-eq_of_cons-eq, nil≢cons, cons≢nil}
use Rattle.grammar.specs.Grammar.{Grammar, IsTerminal, IsNonterminal, IsRule, AllTerminals, Valid, left_side, right_side, start}
use Rattle.grammar.specs.Trees.{Forest, empty, leaf, node, Tree, Nullable}

pub join : {G : Grammar} {Xs Ys ws vs ps qs : List ℕ} → Forest G Xs ws ps → Forest G Ys vs qs → Forest G (Xs ++ Ys) (ws ++ vs) (ps ++ qs)
join empty g = g
join (leaf w f) g = leaf w (join f g)
join (node r f f') g = simp append_assoc (node r f (join f' g))

-- A forest cut between its roots Xs and Ys.
pub record Split (G : Grammar) (Xs Ys ws ps : List ℕ) : Type 0 where
  pub words_front : List ℕ
  pub words_back : List ℕ
  pub rules_front : List ℕ
  pub rules_back : List ℕ
  pub words_are : ws ≡ words_front ++ words_back
  pub rules_are : ps ≡ rules_front ++ rules_back
  pub front : Forest G Xs words_front rules_front
  pub back : Forest G Ys words_back rules_back

pub split : {G : Grammar} (Xs Ys : List ℕ) {Zs ws ps : List ℕ} → Forest G Zs ws ps → Zs ≡ Xs ++ Ys → Split G Xs Ys ws ps
split [] Ys {ws = ws} {ps = ps} f e =
    record { words_front = []; words_back = ws; rules_front = []; rules_back = ps; words_are = refl; rules_are = refl; front = empty; back = rw e at f }
split (X ∷ Xs) Ys empty e = absurd (nil≢cons e)
split {G} (X ∷ Xs) Ys (leaf {w = w} h f) e =
    let s = split Xs Ys f (tail-eq_of_cons-eq e) in
    record {
      words_front = w ∷ s.words_front;
      words_back = s.words_back;
      rules_front = s.rules_front;
      rules_back = s.rules_back;
      words_are = ap (λ l. w ∷ l) s.words_are;
      rules_are = s.rules_are;
      front = subst (λ Z. Forest G (Z ∷ Xs) (w ∷ s.words_front) s.rules_front) (head-eq_of_cons-eq e) (leaf h s.front);
      back = s.back;
    }
split {G} (X ∷ Xs) Ys (node {r = r} {ws = ws} {ps = ps} h f g) e =
    let s = split Xs Ys g (tail-eq_of_cons-eq e) in
    record {
      words_front = ws ++ s.words_front;
      words_back = s.words_back;
      rules_front = ps ++ r ∷ s.rules_front;
      rules_back = s.rules_back;
      words_are = ap (λ l. ws ++ l) s.words_are ∙ sym (append_assoc ws s.words_front s.words_back);
      rules_are = ap (λ l. ps ++ r ∷ l) s.rules_are ∙ sym (append_assoc ps (r ∷ s.rules_front) s.rules_back);
      front = subst (λ Z. Forest G (Z ∷ Xs) (ws ++ s.words_front) (ps ++ r ∷ s.rules_front)) (head-eq_of_cons-eq e) (node h f s.front);
      back = s.back;
    }

-- Terminals are a forest of leaves, with no rule.
pub leaves : {G : Grammar} (us : List ℕ) → AllTerminals G us → Forest G us us []
leaves [] h = empty
leaves {G} (u ∷ us) h = leaf (All-head (IsTerminal G) u us h) (leaves us (All-tail (IsTerminal G) u us h))

-- Only terminals stand at the leaves.
pub terminals_of : {G : Grammar} {Xs ws ps : List ℕ} → Forest G Xs ws ps → AllTerminals G ws
terminals_of {G} empty = All-nil (IsTerminal G)
terminals_of {G} (leaf {w = w} {ws = ws} h f) = All-cons (IsTerminal G) w ws h (terminals_of f)
terminals_of {G} (node {ws = ws} {vs = vs} h f g) = All-append (IsTerminal G) ws vs (terminals_of f) (terminals_of g)

-- A tree from a rule and a forest of its right side.
pub tree : {G : Grammar} {r : ℕ} {ws ps : List ℕ} → IsRule G r → Forest G (right_side G r) ws ps → Tree G (left_side G r) ws (ps ++ r ∷ [])
tree {G} {r} {ws} {ps} h f = rw append-nil at (node h f empty)

-- No roots, no words and no rules.
no_roots : {G : Grammar} {Xs ws ps : List ℕ} → Forest G Xs ws ps → Xs ≡ [] → (ws ≡ []) × (ps ≡ [])
no_roots empty e = (refl, refl)
no_roots (leaf h f) e = absurd (cons≢nil e)
no_roots (node h f g) e = absurd (cons≢nil e)

-- A tree with a rule at its root.
pub record Root (G : Grammar) (X : ℕ) (ws ps : List ℕ) : Type 0 where
  pub rule : ℕ
  pub rules : List ℕ
  pub is_rule : IsRule G rule
  pub is_left : left_side G rule ≡ X
  pub forest : Forest G (right_side G rule) ws rules
  pub all : ps ≡ rules ++ rule ∷ []

-- A tree is a leaf or has a rule at its root.
pub data TreeCase (G : Grammar) (X : ℕ) (ws ps : List ℕ) : Type 0 where
  is_leaf : IsTerminal G X → ws ≡ X ∷ [] → ps ≡ [] → TreeCase G X ws ps
  is_root : Root G X ws ps → TreeCase G X ws ps

pub tree_case : {G : Grammar} {Zs ws ps : List ℕ} {X : ℕ} → Forest G Zs ws ps → Zs ≡ X ∷ [] → TreeCase G X ws ps
tree_case empty e = absurd (nil≢cons e)
tree_case {G} (leaf {w = w} h f) e =
    let n = no_roots f (tail-eq_of_cons-eq e) in
    is_leaf (rw (head-eq_of_cons-eq e) at h) (ap₂ (λ x l. x ∷ l) (head-eq_of_cons-eq e) n.0) n.1
tree_case {G} (node {r = r} {ws = ws} {ps = ps} i f g) e =
    let n = no_roots g (tail-eq_of_cons-eq e) in
    is_root
    (record {
      rule = r;
      rules = ps;
      is_rule = i;
      is_left = head-eq_of_cons-eq e;
      forest = subst (λ l. Forest G (right_side G r) l ps) (sym (ap (λ l. ws ++ l) n.0 ∙ append-nil ws)) f;
      all = ap (λ l. ps ++ r ∷ l) n.1;
    })

root_start : {G : Grammar} {ws ps : List ℕ} → TreeCase G (start G) ws ps → Root G (start G) ws ps
unfolding start
root_start (is_root o) = o
root_start (is_leaf h e f) = absurd (omega (arith, h.high))

pub root : {G : Grammar} {ws ps : List ℕ} → Tree G (start G) ws ps → Root G (start G) ws ps
root f = root_start (tree_case f refl)

root_nullable : {G : Grammar} {X : ℕ} {ps : List ℕ} → TreeCase G X [] ps → Root G X [] ps
root_nullable (is_root o) = o
root_nullable (is_leaf h e f) = absurd (nil≢cons e)

-- Only nonterminals are nullable.
pub nullable_nonterminal : {G : Grammar} {X : ℕ} → Valid G → Nullable G X → IsNonterminal G X
nullable_nonterminal {G} v n =
    let o = root_nullable (tree_case n.1 refl) in
    subst (λ Y. IsNonterminal G Y) o.is_left (v.lefts o.rule o.is_rule)
