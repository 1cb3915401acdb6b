-- A row with a rule entered at one word after the other.
use Rattle.std.proofs.Common.{◌≡◌, ℕ, ◌+◌, true, false, refl, ap, ◌∙◌, add-one}
use Rattle.std.proofs.lemmas.Bool.{cond-true, cond-false}
use Rattle.gather.specs.Members.{has}
use Rattle.gather.specs.declared.word_set.WordSet.{WordSet}
use Rattle.tables.specs.declared.row.Row.{Row}
use Rattle.tables.specs.Rows.{entered, reduced}

pub reduced_none : (x : WordSet) (r : ℕ) (row : Row) → reduced x r 0 row ≡ row
unfolding reduced
reduced_none x r row = refl

pub reduced_has : (x : WordSet) (r n : ℕ) (row : Row) → has x n ≡ true → reduced x r (n + 1) row ≡ entered n r (reduced x r n row)
unfolding reduced
reduced_has x r n row e = ap (λ m. reduced x r m row) (add-one n) ∙ cond-true (has x n) (entered n r (reduced x r n row)) (reduced x r n row) e

pub reduced_lacks : (x : WordSet) (r n : ℕ) (row : Row) → has x n ≡ false → reduced x r (n + 1) row ≡ reduced x r n row
unfolding reduced
reduced_lacks x r n row e = ap (λ m. reduced x r m row) (add-one n) ∙ cond-false (has x n) (entered n r (reduced x r n row)) (reduced x r n row) e
