-- Nonterminals that derive words of some set, listed in order: nullable and productive ones.
use Rattle.std.proofs.Common.{◌≡◌, ℕ, Bool, true, ◌&&◌, ◌||◌, eqb, ◌⊎◌, List, [], ◌∷◌, ◌++◌, refl, subst, inl, inr, append-nil}
use Rattle.std.proofs.lemmas.Bool.{and_parts, and_from, or_cases, eqb-true}
use Rattle.std.specs.List.{list_any, list_all}
use Rattle.grammar.proofs.FormSteps.{terminal_is}
use Rattle.grammar.specs.Grammar.{Grammar, IsRule, left_side, right_side}
use Rattle.grammar.specs.Derivation.{is_terminal}
use Rattle.grammar.specs.Trees.{Forest, empty, leaf, node, Tree}
use Rattle.examples.proofs.Tests.{all_append, any_at, member, numbers, mem_from}
use Rattle.examples.proofs.Codes.{rule_numbers, is_rule_lem}
use Rattle.examples.proofs.Ordered.{ordered, Each, in_order}

module _ (G : Grammar) (free : ℕ → Bool) where
  -- A code that stands for free words: a free terminal, or a nonterminal met before.
  abbrev pub known : List ℕ → ℕ → Bool
  known before X = free X && is_terminal G X || member eqb before X

  -- Some rule of the nonterminal has known codes alone.
  abbrev pub derivable : List ℕ → ℕ → Bool
  derivable before X = list_any (λ r. eqb (left_side G r) X && list_all (known before) (right_side G r)) (rule_numbers G)

  pub record Derived (X : ℕ) : Type 0 where
    pub rule : ℕ
    pub words : List ℕ
    pub rules : List ℕ
    pub is_rule : IsRule G rule
    pub is_left : left_side G rule ≡ X
    pub forest : Forest G (right_side G rule) words rules
    pub free_words : list_all free words ≡ true

  -- A forest whose words are free.
  pub record Over (Xs : List ℕ) : Type 0 where
    pub words : List ℕ
    pub rules : List ℕ
    pub forest : Forest G Xs words rules
    pub free_words : list_all free words ≡ true

  leaf_over : {Xs : List ℕ} (X : ℕ) → (free X && is_terminal G X) ≡ true → Over Xs → Over (X ∷ Xs)
  leaf_over X h o =
      let p = and_parts (free X) (is_terminal G X) h in
      record { words = X ∷ o.words; rules = o.rules; forest = leaf (terminal_is G X p.1) o.forest; free_words = and_from (free X) (list_all free o.words) p.0 o.free_words }

  node_over : {Xs : List ℕ} (X : ℕ) → Derived X → Over Xs → Over (X ∷ Xs)
  node_over {Xs} X t o =
      record {
        words = t.words ++ o.words;
        rules = t.rules ++ t.rule ∷ o.rules;
        forest = subst (λ Y. Forest G (Y ∷ Xs) (t.words ++ o.words) (t.rules ++ t.rule ∷ o.rules)) t.is_left (node t.is_rule t.forest o.forest);
        free_words = all_append free t.words o.words t.free_words o.free_words;
      }

  over : (before : List ℕ) → Each Derived before → (Xs : List ℕ) → list_all (known before) Xs ≡ true → Over Xs
  over before k [] h = record { words = []; rules = []; forest = empty; free_words = refl }
  over before k (X ∷ Xs) h = let p = and_parts (known before X) (list_all (known before) Xs) h in pick (or_cases (free X && is_terminal G X) (member eqb before X) p.0) (over before k Xs p.1)
    where
      pick : ((free X && is_terminal G X) ≡ true) ⊎ (member eqb before X ≡ true) → Over Xs → Over (X ∷ Xs)
      pick (inl e) o = leaf_over X e o
      pick (inr e) o = node_over X (k X (mem_from numbers before X e)) o

  reason : (before : List ℕ) (X : ℕ) → Each Derived before → derivable before X ≡ true → Derived X
  reason before X k h =
      let z = any_at (λ r. eqb (left_side G r) X && list_all (known before) (right_side G r)) (rule_numbers G) h in
      let p = and_parts (eqb (left_side G z.0) X) (list_all (known before) (right_side G z.0)) z.2 in
      let o = over before k (right_side G z.0) p.1 in
      record { rule = z.0; words = o.words; rules = o.rules; is_rule = is_rule_lem G z.1; is_left = eqb-true (left_side G z.0) X p.0; forest = o.forest; free_words = o.free_words }

  pub all_derived : (l : List ℕ) → ordered derivable [] l ≡ true → Each Derived l
  all_derived l h = in_order Derived derivable reason l h

  pub tree : {X : ℕ} (t : Derived X) → Tree G X t.words (t.rules ++ t.rule ∷ [])
  tree {X} t = subst (λ ws. Tree G X ws (t.rules ++ t.rule ∷ [])) (append-nil t.words) (subst (λ Y. Tree G Y (t.words ++ []) (t.rules ++ t.rule ∷ [])) t.is_left (node t.is_rule t.forest empty))
