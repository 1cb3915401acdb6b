-- A list lies in its layout exactly when it is the packing of a grammar, and then of one only.
use Rattle.std.proofs.Common.{◌≡◌, ℕ, zero, suc, ◌+◌, ◌-◌, ◌<◌, ◌≤◌, List, [], ◌∷◌, ◌++◌, map, length, get_or, take, drop, sym, refl, ap, ◌∙◌, subst, arith, below_more}
use native.Mathlib.Decide.{dec_lt}
use Rattle.std.specs.List.{range_with_len}
use Rattle.std.proofs.lemmas.List.{length-append, length-drop, get_or-drop, drop-drop, drop_at, take_at, drop_more, drop_all, take-append-drop}
use Rattle.grammar.specs.Grammar.{Rule, Grammar}
use Rattle.sheet.specs.Packing.{Lies, bodies, body, contents, ends, packed, rule_from, stated, unpacked}
use Rattle.sheet.proofs.Bodies.{codes_length, rules_length}

-- one more rule lies in its layout
pub lies_more : (ns : List ℕ) (r at end : ℕ) → (at ≡ ends ns r) × (at ≤ length ns) × ((j : ℕ) → j < r → Lies ns j) → (get_or ns (3 + r) 0 ≡ at) × (end ≡ at + 2 + get_or ns (at + 1) 0) × (end ≤ length ns)
    → (end ≡ ends ns (r + 1)) × (end ≤ length ns) × ((j : ℕ) → j < r + 1 → Lies ns j)
lies_more ns r at end inv body =
    let same : get_or ns (at + 1) 0 ≡ get_or ns (ends ns r + 1) 0 = ap (λ x. get_or ns (x + 1) 0) inv.0 in
    let one : r + 1 ≡ suc r = omega arith in
    let far : end ≡ ends ns r + 2 + get_or ns (ends ns r + 1) 0 = omega (arith, inv.0, body.1) in
    (far ∙ ap (ends ns) (sym one), body.2, below_more (Lies ns) r inv.2 (body.0 ∙ inv.0, omega (arith, body.2)))

-- a body that is all there, and what lies behind it
body_split : (ns : List ℕ) (at : ℕ) → at + 2 + get_or ns (at + 1) 0 ≤ length ns → drop at ns ≡ body (rule_from ns at) ++ drop (at + 2 + get_or ns (at + 1) 0) ns
body_split ns at there =
    let two : at + 1 + 1 ≡ at + 2 = omega arith in
    drop_more ns at 0 (omega arith)
    ∙ ap (λ t. get_or ns at 0 ∷ t) (drop_more ns (at + 1) 0 (omega arith) ∙ ap (λ p. get_or ns (at + 1) 0 ∷ drop p ns) two)
    ∙ ap (λ n. get_or ns at 0 ∷ n ∷ drop (at + 2) ns) (sym (codes_length ns at there))
    ∙ ap (λ t. get_or ns at 0 ∷ length (rule_from ns at).right ∷ t) (sym (take-append-drop (get_or ns (at + 1) 0) (drop (at + 2) ns)) ∙ ap (λ t. (rule_from ns at).right ++ t) (drop-drop (get_or ns (at + 1) 0) (at + 2) ns))

-- a list that lies in its layout is the packing of what it means
module _ (ns : List ℕ) (listed : 3 + stated ns ≤ length ns) (lies : (r : ℕ) → r < stated ns → Lies ns r) (full : ends ns (stated ns) ≡ length ns) where
  bodies_from : (m r : ℕ) → r + m ≡ stated ns → drop (ends ns r) ns ≡ bodies (map (λ j. rule_from ns (get_or ns (3 + j) 0)) (range_with_len r m))
  bodies_from zero r e = let last : r ≡ stated ns = omega arith in drop_all (ends ns r) ns (let h = ap (ends ns) last in omega arith)
  bodies_from (suc m) r e =
      let l : Lies ns r = lies r (omega arith) in
      let one : r + 1 ≡ suc r = omega arith in
      body_split ns (ends ns r) l.1
      ∙ ap (λ p. body (rule_from ns p) ++ drop (ends ns (suc r)) ns) (sym l.0)
      ∙ ap (λ t. body (rule_from ns (get_or ns (3 + r) 0)) ++ t) (ap (λ k. drop (ends ns k) ns) (sym one) ∙ bodies_from m (r + 1) (omega arith))

  contents_from : (m r : ℕ) → r + m ≡ stated ns → take m (drop (3 + r) ns) ≡ contents (ends ns r) (map (λ j. rule_from ns (get_or ns (3 + j) 0)) (range_with_len r m))
  contents_from zero r e = refl
  contents_from (suc m) r e =
      let l : Lies ns r = lies r (omega arith) in
      let one : r + 1 ≡ suc r = omega arith in
      let next : 3 + r + 1 ≡ 3 + (r + 1) = omega arith in
      let far : get_or ns (get_or ns (3 + r) 0 + 1) 0 ≡ get_or ns (ends ns r + 1) 0 = ap (λ p. get_or ns (p + 1) 0) l.0 in
      let long = codes_length ns (get_or ns (3 + r) 0) (omega arith) in
      let end : ends ns (suc r) ≡ ends ns r + length (body (rule_from ns (get_or ns (3 + r) 0))) = omega arith in
      ap (take (suc m)) (drop_more ns (3 + r) 0 (omega arith))
      ∙ ap (λ p. p ∷ take m (drop (3 + r + 1) ns)) l.0
      ∙ ap (λ t. ends ns r ∷ t) (ap (λ k. take m (drop k ns)) next ∙ contents_from m (r + 1) (omega arith) ∙ ap (λ at. contents at (map (λ j. rule_from ns (get_or ns (3 + j) 0)) (range_with_len (r + 1) m))) (ap (ends ns) one ∙ end))

  pub lies_packed : ns ≡ packed (unpacked ns)
  lies_packed =
      let long = rules_length ns in
      drop_more ns 0 0 (omega arith)
      ∙ ap (λ t. get_or ns 0 0 ∷ t) (drop_more ns 1 0 (omega arith))
      ∙ ap (λ t. get_or ns 0 0 ∷ get_or ns 1 0 ∷ t) (drop_more ns 2 0 (omega arith))
      ∙ ap (λ t. get_or ns 0 0 ∷ get_or ns 1 0 ∷ stated ns ∷ t) (sym (take-append-drop (stated ns) (drop 3 ns)))
      ∙ ap (λ t. get_or ns 0 0 ∷ get_or ns 1 0 ∷ stated ns ∷ (t ++ drop (stated ns) (drop 3 ns))) (contents_from (stated ns) 0 (omega arith))
      ∙ ap (λ t. get_or ns 0 0 ∷ get_or ns 1 0 ∷ stated ns ∷ (contents (3 + stated ns) (unpacked ns).rules ++ t)) (drop-drop (stated ns) 3 ns ∙ bodies_from (stated ns) 0 (omega arith))
      ∙ ap (λ n. get_or ns 0 0 ∷ get_or ns 1 0 ∷ n ∷ (contents (3 + n) (unpacked ns).rules ++ bodies (unpacked ns).rules)) (sym long)

abbrev make_rule : ℕ → List ℕ → Rule
make_rule a s = record { left = a; right = s }

rule_path : {a b : ℕ} {s t : List ℕ} → a ≡ b → s ≡ t → make_rule a s ≡ make_rule b t
rule_path p q i = record { left = p i; right = q i }

pub contents_length : (at : ℕ) (rs : List Rule) → length (contents at rs) ≡ length rs
contents_length at [] = refl
contents_length at (r ∷ rs) = ap suc (contents_length (at + length (body r)) rs)

-- the rules from the one after rule r on, where their places and their bodies stand one after another
record Stand (ns : List ℕ) (r last : ℕ) (rs : List Rule) : Type 0 where
  lie : (j : ℕ) → r ≤ j → j < last → Lies ns j
  full : ends ns last ≡ length ns
  read : map (λ j. rule_from ns (get_or ns (3 + j) 0)) (range_with_len r (length rs)) ≡ rs

stand : (ns : List ℕ) (rs : List Rule) (r last at : ℕ) (tail : List ℕ) → r + length rs ≡ last → at ≡ ends ns r → at ≤ length ns → drop (3 + r) ns ≡ contents at rs ++ tail → drop at ns ≡ bodies rs → Stand ns r last rs
stand ns [] r last at tail e is in_List places here =
    let none = sym (length-drop at ns) ∙ ap length here in
    let same : r ≡ last = omega arith in
    record { lie = λ j h k. absurd (omega arith); full = ap (ends ns) (sym same) ∙ sym is ∙ omega arith; read = refl }
stand ns (x ∷ xs) r last at tail e is in_List places here =
    let size : length ns - at ≡ suc (suc (length (x.right ++ bodies xs))) = sym (length-drop at ns) ∙ ap length here in
    let parts = length-append x.right (bodies xs) in
    let place : get_or ns (3 + r) 0 ≡ at = ap (λ p. get_or ns p 0) (let z : 3 + r ≡ 3 + r + 0 = omega arith in z) ∙ sym (get_or-drop (3 + r) ns 0 0) ∙ ap (λ t. get_or t 0 0) places in
    let left : get_or ns at 0 ≡ x.left = ap (λ p. get_or ns p 0) (let z : at ≡ at + 0 = omega arith in z) ∙ sym (get_or-drop at ns 0 0) ∙ ap (λ t. get_or t 0 0) here in
    let long : get_or ns (at + 1) 0 ≡ length x.right = sym (get_or-drop at ns 1 0) ∙ ap (λ t. get_or t 1 0) here in
    let codes : drop (at + 2) ns ≡ x.right ++ bodies xs = sym (drop-drop 2 at ns) ∙ ap (drop 2) here in
    let right : take (get_or ns (at + 1) 0) (drop (at + 2) ns) ≡ x.right = ap (take (get_or ns (at + 1) 0)) codes ∙ take_at x.right (bodies xs) (get_or ns (at + 1) 0) (sym long) in
    let next : at + length (body x) ≡ at + 2 + length x.right = omega arith in
    let behind : drop (at + length (body x)) ns ≡ bodies xs = ap (λ p. drop p ns) next ∙ sym (drop-drop (length x.right) (at + 2) ns) ∙ ap (drop (length x.right)) codes ∙ drop_at x.right (bodies xs) (length x.right) refl in
    let far : get_or ns (ends ns r + 1) 0 ≡ get_or ns (at + 1) 0 = ap (λ p. get_or ns (p + 1) 0) (sym is) in
    let one : r + 1 ≡ suc r = omega arith in
    let end : at + length (body x) ≡ ends ns (r + 1) = let z : at + length (body x) ≡ ends ns (suc r) = omega arith in z ∙ ap (ends ns) (sym one) in
    let more : drop (3 + (r + 1)) ns ≡ contents (at + length (body x)) xs ++ tail = ap (λ p. drop p ns) (let z : 3 + (r + 1) ≡ 3 + r + 1 = omega arith in z) ∙ sym (drop-drop 1 (3 + r) ns) ∙ ap (drop 1) places in
    let rest : Stand ns (r + 1) last xs = stand ns xs (r + 1) last (at + length (body x)) tail (omega arith) end (omega arith) more behind in
    let here_lies : Lies ns r = (place ∙ is, omega arith) in
    record {
      lie = λ j h k. elim (dec_lt r j) [ yes l ↦ rest.lie j (omega arith) k | no l ↦ let z : r ≡ j = omega arith in subst (Lies ns) z here_lies ];
      full = rest.full;
      read = ap (λ t. rule_from ns (get_or ns (3 + r) 0) ∷ t) rest.read ∙ ap (λ p. rule_from ns p ∷ xs) place ∙ ap (λ q. q ∷ xs) (rule_path left right);
    }

-- the packing of a grammar lies in its layout, and means that grammar
module _ (G : Grammar) where
  from_start : Stand (packed G) 0 (length G.rules) G.rules
  from_start =
      let long = contents_length (3 + length G.rules) G.rules in
      let parts = length-append (contents (3 + length G.rules) G.rules) (bodies G.rules) in
      stand (packed G) G.rules 0 (length G.rules) (3 + length G.rules) (bodies G.rules) (omega arith) refl (omega arith) refl
      (sym (drop-drop (length G.rules) 3 (packed G)) ∙ drop_at (contents (3 + length G.rules) G.rules) (bodies G.rules) (length G.rules) long)

  pub packed_lies : (r : ℕ) → r < length G.rules → Lies (packed G) r
  packed_lies r h = from_start.lie r (omega arith) h

  pub packed_full : ends (packed G) (length G.rules) ≡ length (packed G)
  packed_full = from_start.full

  pub packed_listed : 3 + length G.rules ≤ length (packed G)
  packed_listed =
      let long = contents_length (3 + length G.rules) G.rules in
      let parts = length-append (contents (3 + length G.rules) G.rules) (bodies G.rules) in
      omega arith

  pub packed_means : unpacked (packed G) ≡ G
  packed_means i = record { terminals = G.terminals; nonterminals = G.nonterminals; rules = from_start.read i }
