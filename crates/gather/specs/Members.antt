-- The members of word sets.
use Rattle.std.specs.Prelude.{◌≡◌, ℕ, Bool, bit_or}
use Rattle.gather.specs.Bits.{is_bit}
use Rattle.gather.specs.Gathered.{TracedBy}
use Rattle.gather.specs.declared.word_set.WordSet.{WordSet}

-- Whether k is a member.
abbrev pub has : WordSet → ℕ → Bool
has s k = is_bit s.0 k

-- The set without members.
abbrev pub no_members : WordSet
no_members = record { 0 = 0 }

-- What is a member of either.
abbrev pub unite : WordSet → WordSet → WordSet
unite a b = record { 0 = bit_or a.0 b.0 }

-- Two sets with the same members are equal.
abbrev pub ByMembers : Type 0
ByMembers = (a b : WordSet) → ((k : ℕ) → has a k ≡ has b k) → a ≡ b

-- A gathered set has exactly the members of the seeds that its place reaches.
abbrev pub MembersReached : Type 0
MembersReached = (k : ℕ) → TracedBy no_members unite (λ s. has s k)
