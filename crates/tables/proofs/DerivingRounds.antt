-- The marks that rounds over the rules leave are those of the codes that derive the first words.
use Rattle.std.proofs.Common.{◌≡◌, ℕ, ◌+◌, ◌<◌, ◌≤◌, Bool, true, List, All, [], ◌∷◌, ◌++◌, length, get_or, set, sym, refl, ◌∙◌, subst, inl, inr, arith}
use Rattle.std.specs.List.{AllByRecursion}
use Rattle.std.proofs.ByRecursion.{All-append}
use Rattle.std.proofs.lemmas.List.Elements.{All-from_recursion, All-head, recursion_from_All, All-weaker}
use Rattle.std.proofs.lemmas.List.{length-set}
use Rattle.grammar.specs.Grammar.{Grammar, IsTerminal, IsRule, AllTerminals, left_side, right_side}
use Rattle.grammar.specs.Trees.{Forest, empty, leaf, node, Tree}
use Rattle.grammar.proofs.Forests.{join, tree, terminals_of}
use Rattle.tables.specs.declared.rules.Rules.{Rules}
use Rattle.tables.specs.Arrays.{codes_at, grammar_of}
use Rattle.tables.specs.CodeMarks.{Marked, MarksOf}
use Rattle.tables.specs.Closing.{falses}
use Rattle.tables.specs.DeriveWords.{DerivesWords, MarksBelow, Lacks, NoneLacks}
use Rattle.tables.specs.NullableMarks.{NullableMarks}
use Rattle.tables.specs.ProductiveMarks.{ProductiveMarks}
use Rattle.tables.proofs.RuleArrays.{terminals_is, is_rule_lem, rule_high, left_is, right_is}
use Rattle.tables.proofs.TruthLists.{in_keeps, in_split, falses_set}

all_front : (P : ℕ → Type 0) (ws vs : List ℕ) → AllByRecursion P (ws ++ vs) → AllByRecursion P ws
all_front P [] vs h = tt
all_front P (w ∷ ws) vs h = (h.0, all_front P ws vs h.1)

all_back : (P : ℕ → Type 0) (ws vs : List ℕ) → AllByRecursion P (ws ++ vs) → AllByRecursion P vs
all_back P [] vs h = h
all_back P (w ∷ ws) vs h = all_back P ws vs h.1

module _ (G : Grammar) (n : ℕ) where
  -- Trees side by side.
  forest : (Xs : List ℕ) → AllByRecursion (DerivesWords G n) Xs → (ws ps : List ℕ) × AllByRecursion (λ w. w ≤ n) ws × Forest G Xs ws ps
  forest [] h = ([], [], tt, empty)
  forest (X ∷ Xs) h =
      let t = h.0 in
      let f = forest Xs h.1 in
      (t.words ++ f.0, t.rules ++ f.1, All-append (λ w. w ≤ n) t.words f.0 t.low f.2, join t.tree f.3)

  -- A rule over codes that derive the first words.
  by_rule : (r : ℕ) → IsRule G r → AllByRecursion (DerivesWords G n) (right_side G r) → DerivesWords G n (left_side G r)
  by_rule r i h = let f = forest (right_side G r) h in record { words = f.0; rules = f.1 ++ r ∷ []; low = f.2; tree = tree i f.3 }

  -- Marks that have the first words, and the left side of each rule with its right side, have the roots of trees over the words.
  module _ (marks : List Bool) (keeps : (w : ℕ) → IsTerminal G w → w ≤ n → Marked marks w) (closed : (r : ℕ) → IsRule G r → AllByRecursion (Marked marks) (right_side G r) → Marked marks (left_side G r)) where
    roots : {Xs ws ps : List ℕ} → Forest G Xs ws ps → AllByRecursion (λ w. w ≤ n) ws → AllByRecursion (Marked marks) Xs
    roots empty h = tt
    roots (leaf {w = w} i f) h = (keeps w i h.0, roots f h.1)
    roots (node {r = r} {ws = ws} {vs = vs} i f g) h =
        (closed r i (roots f (all_front (λ w. w ≤ n) ws vs h)), roots g (all_back (λ w. w ≤ n) ws vs h))

module _ (G : Grammar) (marks : List Bool) where
  -- Without a word that is at most 0, the list of words is empty.
  no_words : (ws : List ℕ) → AllTerminals G ws → AllByRecursion (λ w. w ≤ 0) ws → ws ≡ []
  no_words [] t h = refl
  no_words (w ∷ ws) t h = absurd (omega (arith, (All-head (IsTerminal G) w ws t).low, h.0))

  pub nullable_marks : MarksOf (DerivesWords G 0) marks → NullableMarks G marks
  nullable_marks m =
      record {
        sound = λ X h. let t = m.sound X h in (t.rules, subst (λ ws. Tree G X ws t.rules) (no_words t.words (terminals_of t.tree) t.low) t.tree);
        whole = λ X t. m.whole X (record { words = []; rules = t.0; low = tt; tree = t.1 });
      }

  pub productive_marks : MarksOf (DerivesWords G G.terminals) marks → ProductiveMarks G marks
  productive_marks m =
      record {
        sound = λ X h. let t = m.sound X h in (t.words, t.rules, t.tree);
        whole = λ X t. m.whole X (record { words = t.0; rules = t.1; low = recursion_from_All (λ w. w ≤ G.terminals) t.0 (All-weaker (IsTerminal G) (λ w. w ≤ G.terminals) (λ w i. i.high) t.0 (terminals_of t.2)); tree = t.2 });
      }

module _ (R : Rules) where
  -- The right side of a rule, in the array and in the grammar.
  right_all : (P : ℕ → Type 0) (r : ℕ) → IsRule (grammar_of R) r → All P (codes_at R r) → AllByRecursion P (right_side (grammar_of R) r)
  right_all P r i h = rw (right_is R r i) (recursion_from_All P (codes_at R r) h)

  all_right : (P : ℕ → Type 0) (r : ℕ) → IsRule (grammar_of R) r → AllByRecursion P (right_side (grammar_of R) r) → All P (codes_at R r)
  all_right P r i h = All-from_recursion P (codes_at R r) (subst (AllByRecursion P) (right_is R r i) h)

  -- The marks after some rounds.
  pub record Sofar (n : ℕ) (marks : List Bool) : Type 0 where
    pub size : length marks ≡ 88
    pub keeps : (w : ℕ) → 1 ≤ w → w ≤ n → Marked marks w
    pub sound : (X : ℕ) → Marked marks X → DerivesWords (grammar_of R) n X

  pub left_below : (r : ℕ) → get_or R.left r 0 < 88
  left_below r = omega (arith, R.leftsbelow r, R.terminals63, R.nonterminals24)

  pub begun : (n : ℕ) (marks : List Bool) → n ≤ R.terminals → length marks ≡ 88 → MarksBelow (n + 1) marks → Sofar n marks
  begun n marks few size m =
      record {
        size = size;
        keeps = λ w low high. m.whole w (low, omega arith);
        sound = λ X h.
            let p = m.sound X h in
            let i : IsTerminal (grammar_of R) X = record { low = p.0; high = omega (arith, p.1, terminals_is R) } in
            record { words = X ∷ []; rules = []; low = (omega (arith, p.1), tt); tree = leaf i empty };
      }

  module _ (n : ℕ) (marks : List Bool) (r : ℕ) (s : Sofar n marks) (k : Lacks R marks r) where
    pub fewer : falses (set marks (get_or R.left r 0) true) < falses marks
    fewer = falses_set marks (get_or R.left r 0) (omega (arith, left_below r, s.size)) k.left

    pub round : Sofar n (set marks (get_or R.left r 0) true)
    round =
        let i = is_rule_lem R r k.low k.high in
        record {
          size = length-set marks (get_or R.left r 0) true ∙ s.size;
          keeps = λ w low high. in_keeps marks (get_or R.left r 0) w (s.keeps w low high);
          sound = λ X h. elim (in_split marks (get_or R.left r 0) X h) [
            | inl e ↦ subst (λ Y. DerivesWords (grammar_of R) n Y) (sym (e ∙ left_is R r i)) (by_rule (grammar_of R) n r i (right_all (DerivesWords (grammar_of R) n) r i (All-weaker (Marked marks) (DerivesWords (grammar_of R) n) s.sound (codes_at R r) k.right)))
            | inr m ↦ s.sound X m
          ];
        }

  pub all_rounds : (n : ℕ) (marks : List Bool) → Sofar n marks → NoneLacks R marks (R.count + 1) → MarksOf (DerivesWords (grammar_of R) n) marks
  all_rounds n marks s full =
      record {
        sound = s.sound;
        whole = λ X t. (roots (grammar_of R) n marks (λ w i l. s.keeps w i.low l) (λ r i h. subst (λ Y. Marked marks Y) (left_is R r i) (full r i.low (omega (arith, rule_high R r i)) (all_right (Marked marks) r i h))) t.tree t.low).0;
      }
