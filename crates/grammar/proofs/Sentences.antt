-- Derivations and trees of the words of a sentence, and what the machine says of them.
use Rattle.std.proofs.Common.{◌≡◌, ℕ, ◌↔◌, List, [], ◌∷◌, ◌++◌, reverse, sym, ap, ◌∙◌}
use mathlib.Core.List.{reverse-reverse}
use Rattle.grammar.specs.Grammar.{Grammar, Valid}
use Rattle.grammar.specs.Trees.{TreeOf, AllProductive}
use Rattle.grammar.specs.Derivation.{Derives, Begins}
use Rattle.grammar.specs.States.{Automaton, Laws}
use Rattle.grammar.specs.Cells.{ConflictFree}
use Rattle.grammar.specs.Machine.{AcceptsWords, Run}
use Rattle.grammar.proofs.DerivedTrees.{rightmost_of, forest_of}
use Rattle.grammar.proofs.Runs.{same_rules}
use Rattle.grammar.proofs.FollowedTrees.{complete}
use Rattle.grammar.proofs.SpelledStacks.{sound}
use Rattle.grammar.proofs.ViablePrefix.{prefix_tree}

module _ {G : Grammar} (v : Valid G) where
  pub tree_of : (ds ws : List ℕ) → Derives G ds ws → TreeOf G ws (reverse ds)
  tree_of ds ws e = forest_of v e

  pub derivation_of : (ps ws : List ℕ) → TreeOf G ws ps → Derives G (reverse ps) ws
  derivation_of ps ws f = rightmost_of f

  pub postorder : (ds ws : List ℕ) → Derives G ds ws ↔ TreeOf G ws (reverse ds)
  postorder ds ws = (tree_of ds ws, λ f. rw (reverse-reverse ds) at (derivation_of (reverse ds) ws f))

  module _ {A : Automaton} (L : Laws G A) where
    pub accepts_derivation : (ds ws : List ℕ) → Derives G ds ws → AcceptsWords G A ws (reverse ds)
    accepts_derivation ds ws e = complete v L (tree_of ds ws e)

    pub derivation_accepted : (ws ps : List ℕ) → AcceptsWords G A ws ps → Derives G (reverse ps) ws
    derivation_accepted ws ps x = derivation_of ps ws (sound L ws x)

    pub one_derivation : ConflictFree G A → (ws ds es : List ℕ) → Derives G ds ws → Derives G es ws → ds ≡ es
    one_derivation free ws ds es d e = sym (reverse-reverse ds) ∙ ap reverse (same_rules free (accepts_derivation ds ws d) (accepts_derivation es ws e)) ∙ reverse-reverse es

    pub begins_sentence : AllProductive G → (ws j ps τ : List ℕ) → Run G A (0 ∷ []) (ws ++ j) ps τ j → Begins G ws
    begins_sentence p ws j ps τ r =
        let y = prefix_tree v p L ws r in
        (y.0, (reverse y.1, derivation_of y.1 (ws ++ y.0) y.2))
