-- Word sets as values: which numbers are members, and that sets with the same members are equal.
use Rattle.std.specs.Prelude.{◌≡◌, ℕ, ◌||◌}
use Rattle.std.proofs.Math.Bool.{or_self, or_comm, or_assoc}
use Rattle.std.proofs.Common.{sym, ap, ◌∙◌}
use Rattle.gather.specs.Members.{has, no_members, unite, ByMembers}
use Rattle.gather.specs.declared.word_set.WordSet.{WordSet}
use Rattle.gather.specs.Bitwise.{is_bit_or, by_bits}

of_bits : ℕ → WordSet
of_bits n = record { 0 = n }

pub by_members : ByMembers
unfolding of_bits
by_members a b same = ap of_bits (by_bits a.0 b.0 same)

pub has_unite : (a b : WordSet) (k : ℕ) → has (unite a b) k ≡ (has a k || has b k)
has_unite a b k = is_bit_or a.0 b.0 k

pub unite_none : (a : WordSet) → unite no_members a ≡ a
unite_none a = by_members (unite no_members a) a (λ k. has_unite no_members a k)

pub unite_self : (a : WordSet) → unite a a ≡ a
unite_self a = by_members (unite a a) a (λ k. has_unite a a k ∙ or_self (has a k))

pub unite_comm : (a b : WordSet) → unite a b ≡ unite b a
unite_comm a b = by_members (unite a b) (unite b a) (λ k. has_unite a b k ∙ or_comm (has a k) (has b k) ∙ sym (has_unite b a k))

pub unite_assoc : (a b c : WordSet) → unite (unite a b) c ≡ unite a (unite b c)
unite_assoc a b c =
    by_members (unite (unite a b) c) (unite a (unite b c)) (λ k.
    has_unite (unite a b) c k ∙ ap (λ t. t || has c k) (has_unite a b k)
    ∙ or_assoc (has a k) (has b k) (has c k)
    ∙ sym (has_unite a (unite b c) k ∙ ap (λ t. has a k || t) (has_unite b c k)))
