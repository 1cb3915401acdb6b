-- Of the rules of a supplement none is cut off.
use Rattle.std.proofs.Common.{◌≡◌, ℕ, List, [], ◌∷◌, ◌++◌, ◌-◌, length, sym, ap, ◌∙◌, arith}
use Rattle.std.proofs.lemmas.List.{append_assoc, take_all}
use Rattle.grammar.specs.Grammar.{Grammar, Rule}
use Rattle.sheet.specs.Supplements.{Added, NeverCut, Uncut, added, alone, own_rules}
use Rattle.sheet.specs.declared.supplement.Supplement.{Supplement}

abbrev rule : ℕ → List ℕ → Rule
rule left codes = record { left = left; right = codes }

module _ {S : Type 0} (below : S → Grammar) where
  pub alone_uncut : (x : Supplement S) → own_rules x ≡ [] → Uncut below x
  alone_uncut x none =
      let G = below x.sheet in
      let few = ap length none in
      ap (λ rs. G.rules ++ rs) (take_all (96 - length G.rules) (own_rules x) (omega arith))

  pub added_uncut : (x y : Supplement S) (left : ℕ) (codes : List ℕ) → Uncut below x → Added below x left codes y → Uncut below y
  added_uncut x y left codes uncut more =
      ap (λ G. G.rules) more.appended
      ∙ ap (λ rs. rs ++ rule left codes ∷ []) uncut
      ∙ append_assoc (below x.sheet).rules (own_rules x) (rule left codes ∷ [])
      ∙ ap (λ rs. (below x.sheet).rules ++ rs) (sym more.own)
      ∙ ap (λ s. (below s).rules ++ own_rules y) (sym more.sheet)

  pub never_cut : NeverCut below
  never_cut x (alone none) = alone_uncut x none
  never_cut y (added {x} {left = left} {codes = codes} made more) = added_uncut x y left codes (never_cut x made) more
