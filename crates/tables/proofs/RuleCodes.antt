-- The codes of right sides in arrays, and what is nullable behind a dot.
use Rattle.std.proofs.Common.{◌≡◌, ℕ, suc, ◌+◌, ◌-◌, ◌*◌, ◌<◌, ◌≤◌, List, length, get_or, drop, sym, ap, ◌∙◌, subst, arith, Some, slice_get}
use Rattle.std.proofs.lemmas.List.{drop-drop, drop_all}
use Rattle.std.proofs.lemmas.Option.{slice_get_within, get_or_from_slice_get}
use Rattle.std.proofs.lemmas.List.Elements.{All-nil, All-cons, All-head, All-drop}
use Rattle.grammar.specs.Grammar.{Grammar, right_side}
use Rattle.grammar.specs.Items.{CodeAt}
use Rattle.grammar.specs.Trees.{Nullable, AllNullable}
use Rattle.grammar.proofs.Codes.{code_read}
use Rattle.grammar.proofs.ListParts.{drop_at_code}
use Rattle.tables.specs.declared.rules.Rules.{Rules}
use Rattle.tables.specs.Arrays.{grammar_of}
use Rattle.tables.proofs.RuleArrays.{right_code, right_length}

module _ (R : Rules) where
  abbrev G : Grammar
  G = grammar_of R

  abbrev code_at : ℕ → ℕ → ℕ
  code_at r d = get_or R.right (9 * r + d) 0

  pub code_there : (r d : ℕ) → r ≤ R.count → d < get_or R.size r 0 → CodeAt G r d (code_at r d)
  code_there r d h l = code_read (right_side G r) d (code_at r d) (R.inside r d h l) (sym (right_code R r d (omega (arith, R.short r))))

  pub dot_inside : (r d X : ℕ) → r ≤ R.count → CodeAt G r d X → d < get_or R.size r 0
  dot_inside r d X h e = omega (arith, slice_get_within (right_side G r) d X e, right_length R r h)

  pub code_same : (r d X : ℕ) → r ≤ R.count → CodeAt G r d X → code_at r d ≡ X
  code_same r d X h e = right_code R r d (omega (arith, dot_inside r d X h e, R.short r)) ∙ get_or_from_slice_get (right_side G r) d X 0 e

module _ (G : Grammar) where
  pub nullable_later : (l : List ℕ) (d e : ℕ) → d ≤ e → AllNullable G (drop d l) → AllNullable G (drop e l)
  nullable_later l d e h a =
      subst (λ m. AllNullable G m) (drop-drop (e - d) d l ∙ ap (λ n. drop n l) (omega arith)) (All-drop (Nullable G) (e - d) (drop d l) a)

  pub nullable_end : (l : List ℕ) (d : ℕ) → length l ≤ d → AllNullable G (drop d l)
  nullable_end l d h = subst (λ m. AllNullable G m) (sym (drop_all d l h)) (All-nil (Nullable G))

  pub nullable_more : (l : List ℕ) (d X : ℕ) → slice_get l d ≡ Some X → Nullable G X → AllNullable G (drop (suc d) l) → AllNullable G (drop d l)
  nullable_more l d X e n a = subst (λ m. AllNullable G m) (sym (drop_at_code l d X e)) (All-cons (Nullable G) X (drop (suc d) l) n a)

  pub nullable_first : (l : List ℕ) (d X : ℕ) → slice_get l d ≡ Some X → AllNullable G (drop d l) → Nullable G X
  nullable_first l d X e a = All-head (Nullable G) X (drop (suc d) l) (subst (λ m. AllNullable G m) (drop_at_code l d X e) a)
