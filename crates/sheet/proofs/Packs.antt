-- The packing of a grammar, rule by rule.
use Rattle.std.proofs.Common.{◌≡◌, ℕ, zero, suc, ◌+◌, ◌<◌, ◌≤◌, List, [], ◌∷◌, ◌++◌, length, get_or, take, drop, Some, Option, sym, refl, ap, ◌∙◌, arith, rules}
use Rattle.std.proofs.lemmas.List.{append_assoc, append-nil, get_or_append_left, length-append, take-append-drop, take_all, take_more}
use Rattle.std.proofs.lemmas.Option.{slice_get-get_or}
use Rattle.grammar.specs.Grammar.{Grammar, Rule, no_rule}
use Rattle.sheet.specs.Packing.{bodies, body, contents, packed}
use Rattle.sheet.proofs.Packings.{contents_length}
use Rattle.sheet.specs.Packs.{Narrow, begins, rule_at}
use Rattle.sheet.specs.Readings.{length_of, length_told}

bodies-append : (xs ys : List Rule) → bodies (xs ++ ys) ≡ bodies xs ++ bodies ys
bodies-append [] ys = refl
bodies-append (x ∷ xs) ys = ap (λ t. body x ++ t) (bodies-append xs ys) ∙ sym (append_assoc (body x) (bodies xs) (bodies ys))

contents-append : (at : ℕ) (xs ys : List Rule) → contents at (xs ++ ys) ≡ contents at xs ++ contents (at + length (bodies xs)) ys
contents-append at [] ys = let same : at ≡ at + 0 = omega arith in ap (λ a. contents a ys) same
contents-append at (x ∷ xs) ys =
    let parts = length-append (body x) (bodies xs) in
    let same : at + length (body x) + length (bodies xs) ≡ at + length (body x ++ bodies xs) = omega arith in
    ap (λ t. at ∷ t) (contents-append (at + length (body x)) xs ys ∙ ap (λ a. contents (at + length (body x)) xs ++ contents a ys) same)

contents_at : (at : ℕ) (rs : List Rule) (i : ℕ) → i < length rs → get_or (contents at rs) i 0 ≡ at + length (bodies (take i rs))
contents_at at [] i h = absurd (omega arith)
contents_at at (r ∷ rs) zero h = let same : at ≡ at + 0 = omega arith in same
contents_at at (r ∷ rs) (suc i) h =
    let parts = length-append (body r) (bodies (take i rs)) in
    contents_at (at + length (body r)) rs i (omega arith) ∙ omega arith

module _ (G : Grammar) (i : ℕ) (within : i < length G.rules) where
  pub length_read : (o : Option ℕ) (n : ℕ) → o ≡ length_told G (i + 1) → o ≡ Some n → n ≡ length (rule_at G i).right
  length_read o n told is =
      let one : i + 1 ≡ suc i = omega arith in
      let both = sym is ∙ told ∙ ap (length_told G) one ∙ ap length_of (slice_get-get_or G.rules i no_rule within) in
      search (rules, both)

  pub bodies_more : bodies (take (i + 1) G.rules) ≡ bodies (take i G.rules) ++ body (rule_at G i)
  bodies_more = ap bodies (take_more G.rules i no_rule within) ∙ bodies-append (take i G.rules) (rule_at G i ∷ []) ∙ ap (λ t. bodies (take i G.rules) ++ t) (append-nil (body (rule_at G i)))

  pub contents_more : contents (3 + length G.rules) (take (i + 1) G.rules) ≡ contents (3 + length G.rules) (take i G.rules) ++ begins G i ∷ []
  contents_more = ap (contents (3 + length G.rules)) (take_more G.rules i no_rule within) ∙ contents-append (3 + length G.rules) (take i G.rules) (rule_at G i ∷ [])

  pub begins_more : begins G (i + 1) ≡ begins G i + 2 + length (rule_at G i).right
  begins_more = let more = ap length bodies_more in let parts = length-append (bodies (take i G.rules)) (body (rule_at G i)) in omega arith

  pub bodies_within : length (bodies (take i G.rules)) + 2 + length (rule_at G i).right ≤ length (bodies G.rules)
  bodies_within =
      let whole = ap length (ap bodies (sym (take-append-drop (i + 1) G.rules)) ∙ bodies-append (take (i + 1) G.rules) (drop (i + 1) G.rules)) in
      let parts = length-append (bodies (take (i + 1) G.rules)) (bodies (drop (i + 1) G.rules)) in
      let more = begins_more in
      omega arith

  -- a place that is too wide
  pub not_narrow : 65535 < begins G i → Narrow (packed G) → ⊥
  not_narrow wide narrow =
      let long = contents_length (3 + length G.rules) G.rules in
      let parts = length-append (contents (3 + length G.rules) G.rules) (bodies G.rules) in
      let place = get_or_append_left (contents (3 + length G.rules) G.rules) (bodies G.rules) 0 i (omega arith) ∙ contents_at (3 + length G.rules) G.rules i within in
      let three : 3 + i ≡ suc (suc (suc i)) = omega arith in
      let low = narrow (3 + i) (omega arith) in
      let same = ap (λ k. get_or (packed G) k 0) three in
      omega arith

pub packed_parts : (G : Grammar) → length (packed G) ≡ 3 + length G.rules + length (bodies G.rules)
packed_parts G =
    let long = contents_length (3 + length G.rules) G.rules in
    let parts = length-append (contents (3 + length G.rules) G.rules) (bodies G.rules) in
    omega arith

pub packed_length : (G : Grammar) → length (packed G) ≡ begins G (length G.rules)
packed_length G = packed_parts G ∙ ap (λ rs. 3 + length G.rules + length (bodies rs)) (sym (take_all (length G.rules) G.rules (omega arith)))

-- what 16-bit numbers hold is narrow
pub narrow_held : (ns rest out : List ℕ) → out ≡ ns ++ rest → ((i : ℕ) → get_or out i 0 < 65536) → Narrow ns
narrow_held ns rest out is narrow k h = let same = ap (λ l. get_or l k 0) is ∙ get_or_append_left ns rest 0 k h in omega (arith, narrow k)
