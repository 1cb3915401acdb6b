-- The laws of the layout: packed and off exclude each other, and each at one value only.
use Rattle.std.proofs.Common.{◌≡◌, ℕ, ◌+◌, ◌<◌, ◌≤◌, List, length, get_or, take, drop, sym, refl, ap, ◌∙◌, subst, arith, rules, Option, Some, None, MatchOption}
use native.Mathlib.Decide.{dec_lt}
use Rattle.std.proofs.lemmas.List.{get_or-drop, get_or-take, length-drop, length-take-le}
use Rattle.grammar.specs.Grammar.{Grammar}
use Rattle.sheet.specs.Packing.{InLayout, LayoutLaws, Lies, Off, Refused, ends, packed, stated, unpacked}
use Rattle.sheet.specs.PackedRefusals.{off_told}
use Rattle.sheet.specs.Packing.Off.{missing, lowest, behind}
use Rattle.sheet.specs.Packing.OffTold.{tells}
use Rattle.sheet.proofs.Packings.{lies_packed, packed_full, packed_lies, packed_listed, packed_means}

-- a body that is not all there, or not where the contents have it
pub not_lying : (ns : List ℕ) (r at : ℕ) → at ≡ ends ns r → (get_or ns (3 + r) 0 ≡ at → length ns < at + 2 + get_or ns (at + 1) 0) → Lies ns r → ⊥
not_lying ns r at is short lies = let far : get_or ns (at + 1) 0 ≡ get_or ns (ends ns r + 1) 0 = ap (λ p. get_or ns (p + 1) 0) is in let h = short (lies.0 ∙ sym is) in omega (arith, lies.1)

not_off : (G : Grammar) (k : ℕ) → Off (packed G) k → ⊥
not_off G k (missing short) = let there = packed_listed G in omega arith
not_off G k (lowest {r} listed low before not) = not (packed_lies G r low)
not_off G k (behind listed all more) = let there = packed_full G in omega arith

-- where a list is off, it packs no grammar
pub refused_at : (ns : List ℕ) (k : ℕ) → Off ns k → Refused ns (off_told k)
refused_at ns k off = (tells off, λ G e. not_off G k (subst (λ l. Off l k) e off))

-- counts or contents that are not all there
pub contents_off : {X : Type 0} (P : X → Type 0) (ns : List ℕ) (o : Option X) → MatchOption o (length ns < 3 + stated ns) P → o ≡ None → Refused ns (off_told 0)
contents_off P ns (Some x) found none = absurd (search (rules, none))
contents_off P ns None found none = refused_at ns 0 (missing found)

-- the contents, where they are all there
module _ (ns cs : List ℕ) (listed : 3 + stated ns ≤ length ns) (is : cs ≡ take (stated ns) (drop 3 ns)) where
  pub contents_length : length cs ≡ stated ns
  contents_length = ap length is ∙ length-take-le (stated ns) (drop 3 ns) (omega (arith, length-drop 3 ns, listed))

  pub contents_at : (r : ℕ) → r < length cs → get_or cs r 0 ≡ get_or ns (3 + r) 0
  contents_at r h = ap (λ l. get_or l r 0) is ∙ get_or-take (stated ns) (drop 3 ns) r 0 (omega (arith, contents_length, h)) ∙ get_or-drop 3 ns r 0

-- a rule that is off, with those before it in their layout
pub body_off : (ns cs : List ℕ) (r at place : ℕ) (o : Option ℕ) → 3 + stated ns ≤ length ns → cs ≡ take (stated ns) (drop 3 ns) → r < length cs → at ≡ ends ns r → ((j : ℕ) → j < r → Lies ns j) → place ≡ get_or cs r 0
    → MatchOption o (place ≡ at → length ns < at + 2 + get_or ns (at + 1) 0) (λ end. (place ≡ at) × (end ≡ at + 2 + get_or ns (at + 1) 0) × (end ≤ length ns)) → o ≡ None → Refused ns (off_told (r + 1))
body_off ns cs r at place (Some end) listed is low here before placed found none = absurd (search (rules, none))
body_off ns cs r at place None listed is low here before placed found none =
    let there = contents_at ns cs listed is r low in
    refused_at ns (r + 1) (lowest listed (omega (arith, contents_length ns cs listed is, low)) before (not_lying ns r at here (λ e. found (placed ∙ there ∙ e))))

-- with every rule in its layout, numbers follow or the list is a packing
pub all_lie : (ns : List ℕ) (r at : ℕ) → 3 + stated ns ≤ length ns → r ≡ stated ns → at ≡ ends ns r → at ≤ length ns → ((j : ℕ) → j < r → Lies ns j)
    → (at < length ns → Refused ns (off_told (stated ns + 1))) × (length ns ≤ at → InLayout ns)
all_lie ns r at listed all is within before =
    let end = ap (ends ns) all in
    let every : (j : ℕ) → j < stated ns → Lies ns j = λ j h. before j (omega arith) in (
      λ h. refused_at ns (stated ns + 1) (behind listed every (omega arith)),
      λ h. let full : ends ns (stated ns) ≡ length ns = omega arith in
          record { listed = listed; lies = every; full = full; packs = lies_packed ns listed every full; only = λ G e. ap unpacked e ∙ packed_means G },
    )

same_lowest : (ns : List ℕ) (r s : ℕ) → (Lies ns r → ⊥) → ((j : ℕ) → j < r → Lies ns j) → (Lies ns s → ⊥) → ((j : ℕ) → j < s → Lies ns j) → r ≡ s
same_lowest ns r s not before not' before' =
    elim (dec_lt r s) [ yes h ↦ absurd (not (before' r h)) | no h ↦ elim (dec_lt s r) [ yes k ↦ absurd (not' (before s k)) | no k ↦ omega arith ] ]

one_place : (ns : List ℕ) (j k : ℕ) → Off ns j → Off ns k → j ≡ k
one_place ns j k (missing a) (missing b) = refl
one_place ns j k (missing a) (lowest b c d e) = absurd (omega arith)
one_place ns j k (missing a) (behind b c d) = absurd (omega arith)
one_place ns j k (lowest b c d e) (missing a) = absurd (omega arith)
one_place ns j k (lowest {r} b c d e) (lowest {r = s} b' c' d' e') = ap (λ n. n + 1) (same_lowest ns r s e d e' d')
one_place ns j k (lowest {r} b c d e) (behind b' c' d') = absurd (e (c' r c))
one_place ns j k (behind b c d) (missing a) = absurd (omega arith)
one_place ns j k (behind b c d) (lowest {r} b' c' d' e') = absurd (e' (c r c'))
one_place ns j k (behind b c d) (behind b' c' d') = refl

pub layout_laws : LayoutLaws
layout_laws = record {
  apart = λ ns k G off e. not_off G k (subst (λ l. Off l k) e off);
  one_place = one_place;
  one_grammar = λ G H e. sym (packed_means G) ∙ ap unpacked e ∙ packed_means H;
}
