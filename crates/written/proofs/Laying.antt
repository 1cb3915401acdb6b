-- The first token of a text, by its first byte that is no blank.
use Rattle.std.proofs.Common.{◌≡◌, ℕ, suc, ◌+◌, ◌<◌, ◌≤◌, Bool, true, false, ◌⊎◌, List, [], ◌∷◌, ◌++◌, length, get_or, drop, sym, refl, ap, ◌∙◌, subst, inl, inr, ⊎_elim, arith}
use Rattle.std.specs.List.{prefix_len}
use Rattle.std.proofs.lemmas.List.{drop-drop, drop_at, length-append, length-drop, get_or-drop, drop_all}
use Rattle.std.proofs.lemmas.Bool.{both_ways, eqb-true, and_parts, or_cases, cond-true, cond-false, cases_Bool}
use Rattle.written.specs.Tokens.{Token, name, word, colon, bar, semicolon, spelling, blank, letter, quotable, Each, Proper, Ends, Placed, Laid, nothing, divider, token}
use Rattle.written.specs.Lexing.{not_quote}

-- The bytes that pass, before one that does not.
abbrev pub Stops : (ℕ → Bool) → List ℕ → Type 0
Stops p [] = Unit {0}
Stops p (b ∷ bs) = p b ≡ false

stop_at_once : (p : ℕ → Bool) (bs : List ℕ) → Stops p bs → prefix_len p bs ≡ 0
stop_at_once p [] h = refl
stop_at_once p (b ∷ bs) h = cond-false (p b) (1 + prefix_len p bs) 0 h

pub leading_each : (p : ℕ → Bool) (xs rest : List ℕ) → Each p xs → Stops p rest → prefix_len p (xs ++ rest) ≡ length xs
leading_each p [] rest e s = stop_at_once p rest s
leading_each p (x ∷ xs) rest e s =
    let more = leading_each p xs rest e.1 s in
    let one : 1 + prefix_len p (xs ++ rest) ≡ suc (length xs) = omega arith in
    cond-true (p x) (1 + prefix_len p (xs ++ rest)) 0 e.0 ∙ one

blank_either : (b : ℕ) → blank b ≡ true → (b ≡ 32) ⊎ (b ≡ 10)
blank_either b y = ⊎_elim (λ e. inl (eqb-true b 32 e)) (λ e. inr (eqb-true b 10 e)) (or_cases _ _ y)

pub no_letter : (b k : ℕ) → b ≡ k → letter k ≡ false → letter b ≡ true → ⊥
no_letter b k e n y = both_ways (letter k) n (ap letter (sym e) ∙ y)

pub quotable_no_quote : (b : ℕ) → quotable b ≡ true → not_quote b ≡ true
quotable_no_quote b y = (and_parts _ _ y).1

pub each_weaker : (p q : ℕ → Bool) → ((b : ℕ) → p b ≡ true → q b ≡ true) → (xs : List ℕ) → Each p xs → Each q xs
each_weaker p q w [] e = tt
each_weaker p q w (x ∷ xs) e = (w x e.0, each_weaker p q w xs e.1)

-- What the first byte says of a token.
pub data Class : Token → ℕ → Type 0 where
  a_name : {b : ℕ} {bs : List ℕ} → letter b ≡ true → Class (name (b ∷ bs)) b
  a_word : {bs : List ℕ} → Class (word bs) 34
  a_colon : Class colon 58
  a_bar : Class bar 124
  a_semicolon : Class semicolon 59

class : (t : Token) (rest : List ℕ) → Proper t → Class t (get_or (spelling t ++ rest) 0 0)
class (name []) rest p = absurd (let h = p.some_byte in omega arith)
class (name (b ∷ bs)) rest p = a_name p.each.0
class (word bs) rest p = a_word
class colon rest p = a_colon
class bar rest p = a_bar
class semicolon rest p = a_semicolon

class_no_blank : (t : Token) (b : ℕ) → Class t b → blank b ≡ true → ⊥
class_no_blank t b (a_name y) h = ⊎_elim (λ e. no_letter b 32 e refl y) (λ e. no_letter b 10 e refl y) (blank_either b h)
class_no_blank t b a_word h = both_ways _ refl h
class_no_blank t b a_colon h = both_ways _ refl h
class_no_blank t b a_bar h = both_ways _ refl h
class_no_blank t b a_semicolon h = both_ways _ refl h

-- Blanks in front can be passed over.
pub skip : {at : ℕ} {ts : List Placed} {bs : List ℕ} → Laid at ts bs → (k : ℕ) → k ≡ prefix_len blank bs → Laid (at + k) ts (drop k bs)
skip (nothing {at}) k e = let z : k ≡ 0 = e in subst (λ k. Laid (at + k) [] (drop k [])) (sym z) nothing
skip (divider {at} {b} {ts} {bs} y l) k e =
    let n = prefix_len blank bs in
    let more = skip l n refl in
    let k_is : k ≡ suc n = e ∙ cond-true (blank b) (1 + n) 0 y ∙ (let one : 1 + n ≡ suc n = omega arith in one) in
    let place : suc at + n ≡ at + suc n = omega arith in
    subst (λ k. Laid (at + k) ts (drop k (b ∷ bs))) (sym k_is) (subst (λ a. Laid a ts (drop n bs)) place more)
skip (token {at} {ts} {rest} t p f l) k e =
    let k_is : k ≡ 0 = e ∙ none t rest p in
    let place : at ≡ at + 0 = omega arith in
    subst (λ k. Laid (at + k) (record { place = at; token = t } ∷ ts) (drop k (spelling t ++ rest))) (sym k_is) (subst (λ a. Laid a (record { place = at; token = t } ∷ ts) (spelling t ++ rest)) place (token t p f l))
  where
    none : (t : Token) (rest : List ℕ) → Proper t → prefix_len blank (spelling t ++ rest) ≡ 0
    none (name []) rest p = absurd (let h = p.some_byte in omega arith)
    none (name (b ∷ bs)) rest p = ⊎_elim (λ y. absurd (class_no_blank _ b (a_name {bs = bs} p.each.0) y)) (λ n. cond-false (blank b) _ 0 n) (cases_Bool (blank b))
    none (word bs) rest p = refl
    none colon rest p = refl
    none bar rest p = refl
    none semicolon rest p = refl

-- The first token of a text that begins with no blank.
pub record First (at : ℕ) (ts : List Placed) (bs : List ℕ) : Type 0 where
  pub first : Token
  pub others : List Placed
  pub rest : List ℕ
  pub proper : Proper first
  pub ends : Ends first rest
  pub is : ts ≡ record { place = at; token = first } ∷ others
  pub laid : Laid (at + length (spelling first)) others rest
  pub text : bs ≡ spelling first ++ rest

first_of : {at : ℕ} {ts : List Placed} {bs : List ℕ} → Laid at ts bs → 1 ≤ length bs → blank (get_or bs 0 0) ≡ false → First at ts bs
first_of nothing some dark = absurd (omega arith)
first_of (divider y l) some dark = absurd (both_ways _ dark y)
first_of (token t p f l) some dark = record { first = t; others = _; rest = _; proper = p; ends = f; is = refl; laid = l; text = refl }

pub no_token : {at : ℕ} {ts : List Placed} {bs : List ℕ} → Laid at ts bs → bs ≡ [] → ts ≡ []
no_token nothing e = refl
no_token (divider {b = b} {bs = bs} y l) e = absurd (let n : length (b ∷ bs) ≡ 0 = ap length e in omega arith)
no_token (token {rest = rest} t p f l) e =
    absurd (let n : length (spelling t ++ rest) ≡ 0 = ap length e in let long = length-append (spelling t) rest in let some = some_spelling t p in omega arith)
  where
    some_spelling : (t : Token) → Proper t → 1 ≤ length (spelling t)
    some_spelling (name bs) p = p.some_byte
    some_spelling (word bs) p = omega arith
    some_spelling colon p = omega arith
    some_spelling bar p = omega arith
    some_spelling semicolon p = omega arith

-- The same in a text at a place: the others lie behind it.
pub record Behind (text : List ℕ) (at : ℕ) (ts : List Placed) (t : Token) : Type 0 where
  pub others : List Placed
  pub is : ts ≡ record { place = at; token = t } ∷ others
  pub laid : Laid (at + length (spelling t)) others (drop (at + length (spelling t)) text)

module _ (text : List ℕ) (from at : ℕ) (is : at ≡ from + prefix_len blank (drop from text)) (ts : List Placed) (l : Laid from ts (drop from text)) where
  pub here : Laid at ts (drop at text)
  here =
      let k = prefix_len blank (drop from text) in
      let more : Laid (from + k) ts (drop k (drop from text)) = skip l k refl in
      let moved : Laid (from + k) ts (drop (from + k) text) = subst (Laid (from + k) ts) (drop-drop k from text) more in
      subst (λ a. Laid a ts (drop a text)) (sym is) moved

  pub ended : length text ≤ at → ts ≡ []
  ended h = no_token here (drop_all at text h)

  module _ (h : at < length text) (dark : blank (get_or text at 0) ≡ false) where
    zero_on : get_or (drop at text) 0 0 ≡ get_or text at 0
    zero_on = get_or-drop at text 0 0 ∙ ap (λ i. get_or text i 0) (let e : at + 0 ≡ at = omega arith in e)

    pub begins : First at ts (drop at text)
    begins = first_of here (let long = length-drop at text in omega arith) (ap blank zero_on ∙ dark)

    pub class_here : Class begins.first (get_or text at 0)
    class_here = subst (Class begins.first) (sym (sym zero_on ∙ ap (λ l. get_or l 0 0) begins.text)) (class begins.first begins.rest begins.proper)

    pub behind : (t : Token) → begins.first ≡ t → Behind text at ts t
    behind t e =
        let F = begins in
        let n = length (spelling F.first) in
        let rest_is : F.rest ≡ drop (at + n) text = sym (sym (drop-drop n at text) ∙ ap (drop n) F.text ∙ drop_at (spelling F.first) F.rest n refl) in
        subst (Behind text at ts) e (record { others = F.others; is = F.is; laid = subst (Laid (at + n) F.others) rest_is F.laid })

    pub parts : (t : Token) → begins.first ≡ t → Proper t × Ends t begins.rest × (drop at text ≡ spelling t ++ begins.rest)
    parts t e = let F = begins in subst (λ t. Proper t × Ends t F.rest × (drop at text ≡ spelling t ++ F.rest)) e (F.proper, F.ends, F.text)
