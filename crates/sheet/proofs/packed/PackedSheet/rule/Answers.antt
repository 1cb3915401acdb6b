use Rattle.std.proofs.Common.{◌+◌, ◌-◌, List, ℕ, Some, length, get_or, take, drop, sym, ap, ◌∙◌, arith}
use Rattle.std.proofs.lemmas.List.{length-drop, take_all}
use Rattle.grammar.specs.Grammar.{Rule}
use Rattle.sheet.proofs.packed.PackedSheet.rule.Goals as goal

abbrev made : ℕ → List ℕ → Rule
made left right = record { left = left; right = right }

pub returns-clause-told : goal.returns-clause-told
returns-clause-told c =
    let ns = c.args.self.now.numbers.now in
    let behind = c.in_ok-at.at + 2 in
    rw c.from.ensures (c.in_ok-at.ensures.told ∙ ap (λ codes. Some (made (get_or ns c.in_ok-at.at 0) (take (get_or ns (c.in_ok-at.at + 1) 0) codes))) (sym (take_all (length ns - behind) (drop behind ns) (omega (arith, length-drop behind ns)))))
