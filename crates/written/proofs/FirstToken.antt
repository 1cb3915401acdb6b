-- Which token stands where the text has a byte that is no blank, and where it ends.
use Rattle.std.proofs.Common.{◌≡◌, ℕ, suc, ◌+◌, ◌-◌, ◌<◌, ◌≤◌, true, false, List, [], ◌∷◌, ◌++◌, length, get_or, take, drop, sym, refl, ap, ◌∙◌, subst, arith}
use Rattle.std.specs.List.{prefix_len}
use Rattle.std.proofs.lemmas.List.{append_assoc, drop-drop, take_at, length-append, length-drop}
use Rattle.written.specs.Tokens.{Token, name, word, colon, bar, semicolon, spelling, blank, letter, quotable, Bytes, NoLetter, Placed, Laid}
use Rattle.written.specs.Lexing.{not_quote}
use Rattle.written.proofs.LeadingBytes.{leading_stops}
use Rattle.written.proofs.Laying.{Class, a_name, a_word, a_colon, a_bar, a_semicolon, no_letter, leading_each, Stops, each_weaker, quotable_no_quote, Behind, begins, behind, class_here, parts}

is_colon : (t : Token) (b : ℕ) → Class t b → b ≡ 58 → t ≡ colon
is_colon t b (a_name y) e = absurd (no_letter b 58 e refl y)
is_colon t b a_word e = absurd (omega arith)
is_colon t b a_colon e = refl
is_colon t b a_bar e = absurd (omega arith)
is_colon t b a_semicolon e = absurd (omega arith)

is_bar : (t : Token) (b : ℕ) → Class t b → b ≡ 124 → t ≡ bar
is_bar t b (a_name y) e = absurd (no_letter b 124 e refl y)
is_bar t b a_word e = absurd (omega arith)
is_bar t b a_colon e = absurd (omega arith)
is_bar t b a_bar e = refl
is_bar t b a_semicolon e = absurd (omega arith)

is_semicolon : (t : Token) (b : ℕ) → Class t b → b ≡ 59 → t ≡ semicolon
is_semicolon t b (a_name y) e = absurd (no_letter b 59 e refl y)
is_semicolon t b a_word e = absurd (omega arith)
is_semicolon t b a_colon e = absurd (omega arith)
is_semicolon t b a_bar e = absurd (omega arith)
is_semicolon t b a_semicolon e = refl

is_word : (t : Token) (b : ℕ) → Class t b → b ≡ 34 → (w : List ℕ) × (t ≡ word w)
is_word t b (a_name y) e = absurd (no_letter b 34 e refl y)
is_word t b (a_word {bs}) e = (bs, refl)
is_word t b a_colon e = absurd (omega arith)
is_word t b a_bar e = absurd (omega arith)
is_word t b a_semicolon e = absurd (omega arith)

is_name : (t : Token) (b : ℕ) → Class t b → letter b ≡ true → (n : List ℕ) × (t ≡ name n)
is_name t b (a_name {bs = bs} y) h = (b ∷ bs, refl)
is_name t b a_word h = absurd (no_letter 34 34 refl refl h)
is_name t b a_colon h = absurd (no_letter 58 58 refl refl h)
is_name t b a_bar h = absurd (no_letter 124 124 refl refl h)
is_name t b a_semicolon h = absurd (no_letter 59 59 refl refl h)

pub record Other (b : ℕ) : Type 0 where
  pub not_58 : b ≡ 58 → ⊥
  pub not_124 : b ≡ 124 → ⊥
  pub not_59 : b ≡ 59 → ⊥
  pub not_34 : b ≡ 34 → ⊥
  pub no_letter : letter b ≡ false

is_none : (t : Token) (b : ℕ) → Class t b → Other b → ⊥
is_none t b (a_name y) o = no_letter b b refl o.no_letter y
is_none t b a_word o = o.not_34 refl
is_none t b a_colon o = o.not_58 refl
is_none t b a_bar o = o.not_124 refl
is_none t b a_semicolon o = o.not_59 refl

-- The letters of a name, behind its first.
name_end : (n rest xs : List ℕ) → Bytes letter n → NoLetter rest → xs ≡ n ++ rest → 1 + prefix_len letter (drop 1 xs) ≡ length n
name_end [] rest xs p s e = absurd (let h = p.some_byte in omega arith)
name_end (b ∷ bs) rest xs p s e =
    let more : prefix_len letter (drop 1 xs) ≡ length bs = ap (λ l. prefix_len letter (drop 1 l)) e ∙ leading_each letter bs rest p.each.1 (stops rest s) in
    omega arith
  where
    stops : (rest : List ℕ) → NoLetter rest → Stops letter rest
    stops [] s = tt
    stops (b ∷ bs) s = s

-- The bytes of a word, behind its quote.
word_end : (w rest xs : List ℕ) → Bytes quotable w → xs ≡ spelling (word w) ++ rest → (prefix_len not_quote (drop 1 xs) ≡ length w) × (take (length w) (drop 1 xs) ≡ w) × (length w + 2 ≤ length xs)
word_end w rest xs p e =
    let inner : drop 1 xs ≡ w ++ 34 ∷ rest = ap (drop 1) e ∙ append_assoc w (34 ∷ []) rest in
    let long : length (drop 1 xs) ≡ length xs - 1 = length-drop 1 xs in
    let size : length (drop 1 xs) ≡ length w + suc (length rest) = ap length inner ∙ length-append w (34 ∷ rest) in
    (ap (prefix_len not_quote) inner ∙ leading_each not_quote w (34 ∷ rest) (each_weaker quotable not_quote quotable_no_quote w p.each) refl, ap (take (length w)) inner ∙ take_at w (34 ∷ rest) (length w) refl, omega arith)

module _ (text : List ℕ) (from at : ℕ) (starts : at ≡ from + prefix_len blank (drop from text)) (ts : List Placed) (l : Laid from ts (drop from text)) (h : at < length text) where
  dark : blank (get_or text at 0) ≡ false
  dark = leading_stops blank text from at starts h

  class : Class (begins text from at starts ts l h dark).first (get_or text at 0)
  class = class_here text from at starts ts l h dark

  pub at_colon : get_or text at 0 ≡ 58 → Behind text at ts colon
  at_colon e = behind text from at starts ts l h dark colon (is_colon _ _ class e)

  pub at_bar : get_or text at 0 ≡ 124 → Behind text at ts bar
  at_bar e = behind text from at starts ts l h dark bar (is_bar _ _ class e)

  pub at_semicolon : get_or text at 0 ≡ 59 → Behind text at ts semicolon
  at_semicolon e = behind text from at starts ts l h dark semicolon (is_semicolon _ _ class e)

  pub at_other : Other (get_or text at 0) → ⊥
  at_other o = is_none _ _ class o

  -- A name that ends at `to`.
  pub at_name : (to : ℕ) → to ≡ at + 1 + prefix_len letter (drop (at + 1) text) → letter (get_or text at 0) ≡ true → (others : List Placed) × (ts ≡ record { place = at; token = name (take (to - at) (drop at text)) } ∷ others) × Laid to others (drop to text)
  at_name to ends y =
      let found = is_name _ _ class y in
      let n = found.0 in
      let B = behind text from at starts ts l h dark (name n) found.1 in
      let p = parts text from at starts ts l h dark (name n) found.1 in
      let size : 1 + prefix_len letter (drop 1 (drop at text)) ≡ length n = name_end n _ (drop at text) p.0 p.1 p.2 in
      let same : prefix_len letter (drop 1 (drop at text)) ≡ prefix_len letter (drop (at + 1) text) = ap (prefix_len letter) (drop-drop 1 at text) in
      let to_is : at + length n ≡ to = omega arith in
      let n_is : n ≡ take (to - at) (drop at text) = sym (ap (λ k. take k (drop at text)) (let e : to - at ≡ length n = omega arith in e) ∙ ap (take (length n)) p.2 ∙ take_at n _ (length n) refl) in
      (B.others, B.is ∙ ap (λ n. record { place = at; token = name n } ∷ B.others) n_is, subst (λ to. Laid to B.others (drop to text)) to_is B.laid)

  -- A word whose last quote stands at `to`.
  pub at_word : (to : ℕ) → to ≡ at + 1 + prefix_len not_quote (drop (at + 1) text) → get_or text at 0 ≡ 34 → (to < length text) × (others : List Placed) × (ts ≡ record { place = at; token = word (take (to - (at + 1)) (drop (at + 1) text)) } ∷ others) × Laid (to + 1) others (drop (to + 1) text)
  at_word to ends y =
      let found = is_word _ _ class y in
      let w = found.0 in
      let B = behind text from at starts ts l h dark (word w) found.1 in
      let p = parts text from at starts ts l h dark (word w) found.1 in
      let inner = word_end w _ (drop at text) p.0 p.2 in
      let next = drop-drop 1 at text in
      let same : prefix_len not_quote (drop 1 (drop at text)) ≡ prefix_len not_quote (drop (at + 1) text) = ap (prefix_len not_quote) next in
      let long = length-drop at text in
      let size : length (spelling (word w)) ≡ length w + 2 = ap suc (length-append w (34 ∷ [])) ∙ (let e : suc (length w + 1) ≡ length w + 2 = omega arith in e) in
      let to_is : at + length (spelling (word w)) ≡ to + 1 = omega arith in
      let w_is : w ≡ take (to - (at + 1)) (drop (at + 1) text) = sym (ap (λ k. take k (drop (at + 1) text)) (let e : to - (at + 1) ≡ length w = omega arith in e) ∙ ap (take (length w)) (sym next) ∙ inner.1) in
      (omega (arith, inner.2), B.others, B.is ∙ ap (λ w. record { place = at; token = word w } ∷ B.others) w_is, subst (λ to. Laid to B.others (drop to text)) to_is B.laid)
