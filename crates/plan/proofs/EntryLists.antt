-- The entries of booked lines: one list, that grows at the end.
use Rattle.std.proofs.Common.{◌≡◌, ℕ, List, [], ◌∷◌, ◌++◌, reverse, sym, refl, ap, ◌∙◌, subst, ap₂, append_assoc, append-nil}
use Rattle.grammar.specs.Grammar.{Grammar}
use Rattle.plan.specs.Account.{BookedLine}
use Rattle.plan.specs.Entries.{entry, EntryOf, Entries, no_entry, one_entry}

module _ {G : Grammar} where
  -- A line has one entry.
  pub same_entry : {b : BookedLine} {x y : List ℕ} → EntryOf G b x → EntryOf G b y → x ≡ y
  same_entry {b} p q = p.is ∙ ap (λ ds. entry b.designer b.words (reverse ds)) (q.only p.derivation p.derives) ∙ sym q.is

  -- Booked lines have one list of entries.
  pub same_entries : {bs : List BookedLine} {x y : List ℕ} → Entries G bs x → Entries G bs y → x ≡ y
  same_entries no_entry no_entry = refl
  same_entries (one_entry p xs) (one_entry q ys) = ap₂ (λ e l. e ++ l) (same_entry p q) (same_entries xs ys)

  -- One line more is booked.
  pub entries_more : {bs : List BookedLine} {b : BookedLine} {list numbers : List ℕ} → Entries G bs list → EntryOf G b numbers → Entries G (bs ++ b ∷ []) (list ++ numbers)
  entries_more {b = b} {numbers = numbers} no_entry p = subst (λ l. Entries G (b ∷ []) l) (append-nil numbers) (one_entry p no_entry)
  entries_more {b = b} {numbers = numbers} (one_entry {b = c} {bs = bs} {numbers = first} {list = list} q x) p =
      subst (λ l. Entries G (c ∷ (bs ++ b ∷ [])) l) (sym (append_assoc first list numbers)) (one_entry q (entries_more x p))
