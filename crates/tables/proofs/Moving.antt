-- The steps of the loop that moves dots over a code.
use Rattle.std.proofs.Common.{◌≡◌, ℕ, ◌+◌, ◌*◌, ◌<◌, ◌≤◌, Bool, false, List, length, get_or, replicate, arith}
use lib.ListN.{length-replicate}
use Rattle.std.proofs.lemmas.List.{get_or-replicate}
use Rattle.grammar.specs.ItemLists.{In, BehindAt}
use Rattle.tables.specs.declared.rules.Rules.{Rules}
use Rattle.tables.proofs.TruthLists.{in_none}
use Rattle.tables.proofs.Closing.{code_item}

module _ (R : Rules) (xs : List Bool) (X : ℕ) where
  -- The items below n are moved.
  pub record Moving (n : ℕ) (ys : List Bool) : Type 0 where
    pub size : length ys ≡ 873
    pub none : get_or ys 0 false ≡ false
    pub onto : (i : ℕ) → i < n → In xs i → get_or R.right i 0 ≡ X → In ys (i + 1)
    pub from : (i : ℕ) → In ys (i + 1) → In xs i × (get_or R.right i 0 ≡ X)

  pub moving_none : Moving 0 (replicate 873 false)
  moving_none =
      record {
        size = length-replicate 873 false;
        none = get_or-replicate 873 0 false false (omega arith);
        onto = λ i h. absurd (omega arith);
        from = λ i h. absurd (in_none 873 (i + 1) h);
      }

  pub moving_all : (n : ℕ) (ys : List Bool) → 1 ≤ X → 9 * R.count + 8 ≤ n → Moving n ys → BehindAt R.right xs X ys
  moving_all n ys low far m =
      record {
        none = m.none;
        onto = λ i h e. m.onto i (omega (arith, code_item R i (omega arith))) h e;
        from = m.from;
      }
