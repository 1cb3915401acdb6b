-- Counts within their limits and codes in range, as tests.
use Rattle.std.proofs.Common.{◌≡◌, ℕ, Bool, true, ◌&&◌, ◌||◌, leb, List, [], ◌∷◌, length, inl, inr, ⊎_elim}
use Rattle.std.proofs.lemmas.Bool.{and_parts, or_cases, leb-true}
use Rattle.std.specs.List.{list_all}
use Rattle.grammar.proofs.FormSteps.{terminal_is}
use Rattle.std.proofs.lemmas.List.Elements.{All-nil, All-cons}
use Rattle.grammar.specs.Grammar.{Grammar, IsRule, IsSymbol, AllCodes, left_side, right_side}
use Rattle.grammar.specs.Derivation.{is_terminal}
use Rattle.grammar.specs.Outcome.{Within, InRange}
use Rattle.examples.proofs.Tests.{all_at, conj, passed}
use Rattle.examples.proofs.Codes.{is_nonterminal, nonterminal_from, rule_numbers, rule_number}

unfoldable pub limits_tests : Grammar → List Bool
limits_tests G =
    leb 1 G.terminals
    ∷ leb G.terminals 63
    ∷ leb 1 G.nonterminals
    ∷ leb G.nonterminals 24
    ∷ leb 1 (length G.rules)
    ∷ leb (length G.rules) 96
    ∷ list_all (λ r. leb (length (right_side G r)) 8) (rule_numbers G)
    ∷ []

abbrev is_code : Grammar → ℕ → Bool
is_code G X = is_terminal G X || is_nonterminal G X

abbrev in_range : Grammar → ℕ → Bool
in_range G r = is_nonterminal G (left_side G r) && list_all (is_code G) (right_side G r)

unfoldable pub in_range_ok : Grammar → Bool
in_range_ok G = list_all (in_range G) (rule_numbers G)

module _ (G : Grammar) where
  pub within : conj (limits_tests G) ≡ true → Within G
  unfolding limits_tests
  within ok =
      let p = passed (limits_tests G) ok in
      record {
        counts = record {
          some_terminal = leb-true 1 G.terminals (p 0);
          terminals = leb-true G.terminals 63 (p 1);
          some_nonterminal = leb-true 1 G.nonterminals (p 2);
          nonterminals = leb-true G.nonterminals 24 (p 3);
          some_rule = leb-true 1 (length G.rules) (p 4);
          rules = leb-true (length G.rules) 96 (p 5);
        };
        right_sides = λ r i. leb-true (length (right_side G r)) 8 (all_at (λ r. leb (length (right_side G r)) 8) (rule_numbers G) (p 6) (rule_number G i));
      }

  all_codes : (Xs : List ℕ) → list_all (is_code G) Xs ≡ true → AllCodes G Xs
  all_codes [] h = All-nil (IsSymbol G)
  all_codes (X ∷ Xs) h =
      let p = and_parts (is_code G X) (list_all (is_code G) Xs) h in
      All-cons (IsSymbol G) X Xs (⊎_elim (λ e. inl (terminal_is G X e)) (λ e. inr (nonterminal_from G X e)) (or_cases (is_terminal G X) (is_nonterminal G X) p.0)) (all_codes Xs p.1)

  pub in_range_lem : in_range_ok G ≡ true → (r : ℕ) → IsRule G r → InRange G r
  unfolding in_range_ok
  in_range_lem ok r i =
      let p = and_parts (is_nonterminal G (left_side G r)) (list_all (is_code G) (right_side G r)) (all_at (in_range G) (rule_numbers G) ok (rule_number G i)) in
      record { left = nonterminal_from G (left_side G r) p.0; right = all_codes (right_side G r) p.1 }
