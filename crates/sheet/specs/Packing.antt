-- How a grammar is packed into a list of numbers, and where a list is off that layout.
use Rattle.std.specs.Prelude.{◌≡◌, ℕ, zero, suc, ◌+◌, ◌<◌, ◌≤◌, List, [], ◌∷◌, ◌++◌, map, length, take, drop, Some, ◌≢◌, slice_index}
use Rattle.std.specs.List.{range_with_len}
use Rattle.grammar.specs.Grammar.{Rule, Grammar}
use Rattle.grammar.specs.Refusals.{Told}
use Rattle.sheet.specs.PackedRefusals.{off_told}
use Rattle.sheet.specs.Readings.{rule_told}

-- A body: the left side, the length, the codes.
abbrev pub body : Rule → List ℕ
body r = r.left ∷ length r.right ∷ r.right

-- The bodies in rule order, with nothing between them.
abbrev pub bodies : List Rule → List ℕ
bodies [] = []
bodies (r ∷ rs) = body r ++ bodies rs

-- The contents: the place of each body, of which the first begins at the given place.
abbrev pub contents : ℕ → List Rule → List ℕ
contents at [] = []
contents at (r ∷ rs) = at ∷ contents (at + length (body r)) rs

-- The packed numbers of a grammar: T, N and P, the contents, and the bodies.
abbrev pub packed : Grammar → List ℕ
packed G = G.terminals ∷ G.nonterminals ∷ length G.rules ∷ (contents (3 + length G.rules) G.rules ++ bodies G.rules)

-- The number P that a list states; 0 where it is missing.
abbrev pub stated : List ℕ → ℕ
stated ns = slice_index ns 2

-- Where the body of rule r ends, if each body follows the one before; the contents end where the first body begins.
abbrev pub ends : List ℕ → ℕ → ℕ
ends ns zero = 3 + stated ns
ends ns (suc r) = ends ns r + 2 + slice_index ns (ends ns r + 1)

-- The rule after rule r is in its layout: its place is where rule r ends, and its body is all there.
abbrev pub Lies : List ℕ → ℕ → Type 0
Lies ns r = (slice_index ns (3 + r) ≡ ends ns r) × (ends ns (suc r) ≤ length ns)

-- Where a list is off its layout: at 0 with the counts or the contents not all there, at the lowest rule that is off, or at P + 1 with numbers behind the last body.
pub data Off (ns : List ℕ) : ℕ → Type 0 where
  missing : length ns < 3 + stated ns → Off ns 0
  lowest : {r : ℕ} → 3 + stated ns ≤ length ns → r < stated ns → ((j : ℕ) → j < r → Lies ns j) → (Lies ns r → ⊥) → Off ns (r + 1)
  behind : 3 + stated ns ≤ length ns → ((j : ℕ) → j < stated ns → Lies ns j) → ends ns (stated ns) < length ns → Off ns (stated ns + 1)

-- What a refusal tells of a list off its layout.
pub data OffTold (ns : List ℕ) : Told → Type 0 where
  tells : {k : ℕ} → Off ns k → OffTold ns (off_told k)

-- The rule whose body begins at this place.
abbrev pub rule_from : List ℕ → ℕ → Rule
rule_from ns at = record { left = slice_index ns at; right = take (slice_index ns (at + 1)) (drop (at + 2) ns) }

-- The grammar that a list of numbers means, each rule read from its place in the contents.
abbrev pub unpacked : List ℕ → Grammar
unpacked ns = record { terminals = slice_index ns 0; nonterminals = slice_index ns 1; rules = map (λ r. rule_from ns (slice_index ns (3 + r))) (range_with_len 0 (stated ns)) }

-- What is told is right, and the list packs no grammar.
abbrev pub Refused : List ℕ → Told → Type 0
Refused ns t = OffTold ns t × ((G : Grammar) → ns ≢ packed G)

-- What a list tells of a rule with this number, whose body begins at this place.
pub record BodyAt (ns : List ℕ) (rule at : ℕ) : Type 0 where
  pub there : at + 2 + slice_index ns (at + 1) ≤ length ns
  pub told : rule_told (unpacked ns) rule ≡ Some (rule_from ns at)

-- A list in its layout: all is there, it packs what it means, and no other grammar.
pub record InLayout (ns : List ℕ) : Type 0 where
  pub listed : 3 + stated ns ≤ length ns
  pub lies : (r : ℕ) → r < stated ns → Lies ns r
  pub full : ends ns (stated ns) ≡ length ns
  pub packs : ns ≡ packed (unpacked ns)
  pub only : (G : Grammar) → ns ≡ packed G → unpacked ns ≡ G

-- No list is both packed and off its layout, a list is off at one place at most, and packs one grammar at most.
pub record LayoutLaws : Type 0 where
  pub apart : (ns : List ℕ) (k : ℕ) (G : Grammar) → Off ns k → ns ≢ packed G
  pub one_place : (ns : List ℕ) (j k : ℕ) → Off ns j → Off ns k → j ≡ k
  pub one_grammar : (G H : Grammar) → packed G ≡ packed H → G ≡ H
