use Rattle.std.proofs.Common.{◌+◌, ◌*◌, ◌<◌, false, ◌&&◌, ltb, get_or, sym, ap, ◌∙◌, ⊎_elim, arith}
use Rattle.std.proofs.lemmas.List.{get_or_past}
use Rattle.std.proofs.lemmas.Bool.{and_left, and_right, lt-ltb, le-ltb, lt-leb}
use Rattle.grammar.specs.ItemLists.{items_of}
use Rattle.tables.proofs.machine.in_set.Goals as goal
use Rattle.tables.proofs.machine.in_set.Goals.{then-rule-le96, else-rule-le96}

pub returns-then-dot-le8 : goal.returns-then-dot-le8
unfolding items_of
returns-then-dot-le8 c =
    sym (ap (λ t. t && get_or c.args.items.now (9 * c.args.rule + c.args.dot) false) (lt-ltb c.args.dot 9 (omega (arith, c.if-dot-le8.true.1))))

pub returns-else-dot-le8 : goal.returns-else-dot-le8
unfolding items_of
returns-else-dot-le8 c =
    let xs = c.args.items.now in
    let i = 9 * c.args.rule + c.args.dot in
    let t = ltb c.args.dot 9 in
    elim c.if-rule-le96.branch [
      | then-rule-le96 w ↦
          (let high : 8 < c.args.dot = ⊎_elim (λ h. h.1) (λ h. absurd (omega (arith, w.if-rule-le96.true))) c.if-dot-le8.either in
          w.t-5-is ∙ lt-leb c.args.dot 8 high ∙ sym (and_left t (get_or xs i false) (le-ltb c.args.dot 9 (omega arith))))
      | else-rule-le96 w ↦ w.t-5-is ∙ lt-leb c.args.rule 96 w.if-rule-le96.false ∙ sym (and_right t (get_or xs i false) (get_or_past xs i false (omega (arith, w.if-rule-le96.false))))
    ]
