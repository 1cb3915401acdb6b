-- A text is laid of one list of placed tokens: the list that a scan of its bytes gives.
use Rattle.std.proofs.Common.{◌≡◌, ℕ, suc, ◌+◌, cond, eqb, List, [], ◌∷◌, ◌++◌, length, sym, refl, ap, ◌∙◌, append_assoc, append-nil, add-one, arith, length-append}
use Rattle.std.proofs.lemmas.Bool.{cond-true, cond-false}
use Rattle.written.specs.Tokens.{Token, name, word, colon, bar, semicolon, blank, letter, quotable, Each, Bytes, NoLetter, Placed, Laid, nothing, divider, token}
use Rattle.written.proofs.TokenBytes.{letter_dark, quotable_inner}

-- Between tokens, or in a name or a word that began at a place, behind some of its bytes.
data Mode : Type 0 where
  idle : Mode
  naming : ℕ → List ℕ → Mode
  quoting : ℕ → List ℕ → Mode

abbrev placed : ℕ → Token → Placed
placed at t = record { place = at; token = t }

-- The tokens from a byte on, by how those behind it are read.
abbrev begun : ℕ → ℕ → (Mode → List Placed) → List Placed
begun at b later =
    cond (blank b) (later idle)
    (cond (letter b) (later (naming at (b ∷ [])))
    (cond (eqb b 34) (later (quoting at []))
    (cond (eqb b 58) (placed at colon ∷ later idle)
    (cond (eqb b 124) (placed at bar ∷ later idle) (placed at semicolon ∷ later idle)))))

abbrev scan : Mode → ℕ → List ℕ → List Placed
scan idle at [] = []
scan (naming start l) at [] = placed start (name l) ∷ []
scan (quoting start l) at [] = []
scan idle at (b ∷ bs) = begun at b (λ m. scan m (suc at) bs)
scan (naming start l) at (b ∷ bs) = cond (letter b) (scan (naming start (l ++ b ∷ [])) (suc at) bs) (placed start (name l) ∷ begun at b (λ m. scan m (suc at) bs))
scan (quoting start l) at (b ∷ bs) = cond (eqb b 34) (placed start (word l) ∷ scan idle (suc at) bs) (scan (quoting start (l ++ b ∷ [])) (suc at) bs)

scan_name : (start : ℕ) (sofar l rest : List ℕ) (at : ℕ) → Each letter l → NoLetter rest → scan (naming start sofar) at (l ++ rest) ≡ placed start (name (sofar ++ l)) ∷ scan idle (at + length l) rest
scan_name start sofar [] [] at each ends = ap (λ x. placed start (name x) ∷ []) (sym (append-nil sofar))
scan_name start sofar [] (b ∷ rest) at each ends =
    let here : at ≡ at + 0 = omega arith in
    cond-false _ _ _ ends ∙ ap (λ x. placed start (name x) ∷ scan idle at (b ∷ rest)) (sym (append-nil sofar)) ∙ ap (λ k. placed start (name (sofar ++ [])) ∷ scan idle k (b ∷ rest)) here
scan_name start sofar (b ∷ l) rest at each ends =
    let behind : suc at + length l ≡ at + suc (length l) = omega arith in
    cond-true _ _ _ each.0 ∙ scan_name start (sofar ++ b ∷ []) l rest (suc at) each.1 ends
    ∙ ap (λ x. placed start (name x) ∷ scan idle (suc at + length l) rest) (append_assoc sofar (b ∷ []) l)
    ∙ ap (λ k. placed start (name (sofar ++ (b ∷ l))) ∷ scan idle k rest) behind

scan_word : (start : ℕ) (sofar l rest : List ℕ) (at : ℕ) → Each quotable l → scan (quoting start sofar) at (l ++ (34 ∷ rest)) ≡ placed start (word (sofar ++ l)) ∷ scan idle (at + suc (length l)) rest
scan_word start sofar [] rest at each =
    let behind : suc at ≡ at + 1 = omega arith in
    ap (λ x. placed start (word x) ∷ scan idle (suc at) rest) (sym (append-nil sofar)) ∙ ap (λ k. placed start (word (sofar ++ [])) ∷ scan idle k rest) behind
scan_word start sofar (b ∷ l) rest at each =
    let unclosed = quotable_inner b each.0 in
    let behind : suc at + suc (length l) ≡ at + suc (suc (length l)) = omega arith in
    cond-false _ _ _ unclosed ∙ scan_word start (sofar ++ b ∷ []) l rest (suc at) each.1
    ∙ ap (λ x. placed start (word x) ∷ scan idle (suc at + suc (length l)) rest) (append_assoc sofar (b ∷ []) l)
    ∙ ap (λ k. placed start (word (sofar ++ (b ∷ l))) ∷ scan idle k rest) behind

scan_named : (at : ℕ) (bs rest : List ℕ) → Bytes letter bs → NoLetter rest → scan idle at (bs ++ rest) ≡ placed at (name bs) ∷ scan idle (at + length bs) rest
scan_named at [] rest p ends = absurd (omega (arith, p.some_byte))
scan_named at (b ∷ l) rest p ends =
    let behind : suc at + length l ≡ at + suc (length l) = omega arith in
    let y = p.each.0 in
    cond-false _ _ _ (letter_dark b y) ∙ cond-true _ _ _ y ∙ scan_name at (b ∷ []) l rest (suc at) p.each.1 ends ∙ ap (λ k. placed at (name (b ∷ l)) ∷ scan idle k rest) behind

scan_quoted : (at : ℕ) (bs rest : List ℕ) → Bytes quotable bs → scan idle at (34 ∷ ((bs ++ 34 ∷ []) ++ rest)) ≡ placed at (word bs) ∷ scan idle (at + suc (length (bs ++ 34 ∷ []))) rest
scan_quoted at bs rest p =
    let long = length-append bs (34 ∷ []) in
    let behind : suc at + suc (length bs) ≡ at + suc (length (bs ++ 34 ∷ [])) = omega arith in
    ap (scan (quoting at []) (suc at)) (append_assoc bs (34 ∷ []) rest) ∙ scan_word at [] bs rest (suc at) p.each ∙ ap (λ k. placed at (word bs) ∷ scan idle k rest) behind

-- The tokens that a text is laid of are those of its scan.
laid_scan : {at : ℕ} {ts : List Placed} {bs : List ℕ} → Laid at ts bs → ts ≡ scan idle at bs
laid_scan nothing = refl
laid_scan (divider y l) = laid_scan l ∙ sym (cond-true _ _ _ y)
laid_scan (token {at = at} {rest = rest} (name bs) p ends l) = ap (λ ts. placed at (name bs) ∷ ts) (laid_scan l) ∙ sym (scan_named at bs rest p ends)
laid_scan (token {at = at} {rest = rest} (word bs) p ends l) = ap (λ ts. placed at (word bs) ∷ ts) (laid_scan l) ∙ sym (scan_quoted at bs rest p)
laid_scan (token {at = at} {rest = rest} colon p ends l) = ap (λ ts. placed at colon ∷ ts) (laid_scan l ∙ ap (λ k. scan idle k rest) (add-one at))
laid_scan (token {at = at} {rest = rest} bar p ends l) = ap (λ ts. placed at bar ∷ ts) (laid_scan l ∙ ap (λ k. scan idle k rest) (add-one at))
laid_scan (token {at = at} {rest = rest} semicolon p ends l) = ap (λ ts. placed at semicolon ∷ ts) (laid_scan l ∙ ap (λ k. scan idle k rest) (add-one at))

pub laid_unique : {at : ℕ} {ts us : List Placed} {bs : List ℕ} → Laid at ts bs → Laid at us bs → ts ≡ us
laid_unique l m = laid_scan l ∙ sym (laid_scan m)
