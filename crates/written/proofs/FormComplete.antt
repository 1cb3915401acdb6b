-- A text that is laid of the tokens of statements is read to its end.
use Rattle.std.proofs.Common.{◌≡◌, ℕ, ◌+◌, ◌≤◌, true, cond, ltb, List, [], ◌∷◌, ◌++◌, length, Some, None, sym, refl, ap, ◌∙◌, subst, append_assoc, arith}
use Rattle.std.proofs.lemmas.Bool.{and_from, lt-ltb, cond-true, cond-false}
use Rattle.written.specs.Tokens.{Token, spelling, blank, letter, quotable, Each, Bytes, Proper, NoLetter, Ends, Placed, tokens, Laid, nothing, divider, token}
use Rattle.written.specs.Stages.{next, run}
use Rattle.written.specs.declared.form.Stage.{Stage}
use Rattle.written.specs.declared.form.Stage.TheVariants.{Between, Head, Headed, Body, Name, Word}
use Rattle.written.proofs.ExpectedTokens.{Takes, head, opens, names, quotes, divides, closes, Expects}
use Rattle.written.proofs.TokenBytes.{letter_dark, quotable_inner}
use Rattle.written.proofs.FormRuns.{Ended}

-- A name is read through, from a stage in it to the one behind it.
module _
    (within : ℕ → Stage) (behind : Stage)
    (steps : (n b : ℕ) → next (within n) b ≡ cond (letter b) (cond (ltb n 24) (Some (within (n + 1))) None) (next behind b))
    (unended : behind ≡ Between → ⊥)
  where
    name_through : (n : ℕ) (l rest : List ℕ) → Each letter l → n + length l ≤ 24 → NoLetter rest → Ended (Some behind) rest → Ended (Some (within n)) (l ++ rest)
    name_through n [] [] each few ends h = absurd (unended (cc))
    name_through n [] (b ∷ rest) each few ends h = ap (λ o. run o rest) (steps n b ∙ cond-false _ _ _ ends) ∙ h
    name_through n (b ∷ l) rest each few ends h =
        let room = lt-ltb n 24 (omega arith) in
        ap (λ o. run o (l ++ rest)) (steps n b ∙ cond-true _ _ _ each.0 ∙ cond-true _ _ _ room) ∙ name_through (n + 1) l rest each.1 (omega arith) ends h

    pub name_read : (bs rest : List ℕ) → Bytes letter bs → NoLetter rest → Ended (Some behind) rest → (s : Stage) → ((b : ℕ) → letter b ≡ true → next s b ≡ Some (within 1)) → Ended (Some s) (bs ++ rest)
    name_read [] rest p ends h s begins = absurd (omega (arith, p.some_byte))
    name_read (b ∷ l) rest p ends h s begins =
        ap (λ o. run o (l ++ rest)) (begins b p.each.0) ∙ name_through 1 l rest p.each.1 (omega (arith, p.few)) ends h

-- A word is read through to its closing quote.
word_through : (n : ℕ) (l rest : List ℕ) → Each quotable l → 1 ≤ n + length l → n + length l ≤ 24 → Ended (Some Body) rest → Ended (Some (Word n)) (l ++ (34 ∷ rest))
word_through n [] rest each some_byte few h = ap (λ o. run o rest) (cond-true _ _ _ (lt-ltb 0 n (omega arith))) ∙ h
word_through n (b ∷ l) rest each some_byte few h =
    let unclosed = quotable_inner b each.0 in
    let fits = and_from _ _ each.0 (lt-ltb n 24 (omega arith)) in
    ap (λ o. run o (l ++ (34 ∷ rest))) (cond-false _ _ _ unclosed ∙ cond-true _ _ _ fits) ∙ word_through (n + 1) l rest each.1 (omega arith) (omega arith) h

headed_unended : Headed ≡ Between → ⊥
headed_unended e = let z : ◌≡◌ {A = ℕ} 0 1 = cc in omega arith

body_unended : Body ≡ Between → ⊥
body_unended e = let z : ◌≡◌ {A = ℕ} 0 1 = cc in omega arith

token_read : {s later : Stage} {t : Token} (rest : List ℕ) → Takes s t later → Proper t → Ends t rest → Ended (Some later) rest → Ended (Some s) (spelling t ++ rest)
token_read rest (head {bs}) p ends h = name_read Head Headed (λ n b. refl) headed_unended bs rest p ends h Between (λ b y. cond-false _ _ _ (letter_dark b y) ∙ cond-true _ _ _ y)
token_read rest opens p ends h = h
token_read rest (names {bs}) p ends h = name_read Name Body (λ n b. refl) body_unended bs rest p ends h Body (λ b y. cond-false _ _ _ (letter_dark b y) ∙ cond-true _ _ _ y)
token_read rest (quotes {bs}) p ends h = ap (run (Some (Word 0))) (append_assoc bs (34 ∷ []) rest) ∙ word_through 0 bs rest p.each (omega (arith, p.some_byte)) (omega (arith, p.few)) h
token_read rest divides p ends h = h
token_read rest closes p ends h = h

-- A blank leaves a stage between tokens as it is.
blank_stays : {s later : Stage} {t : Token} (b : ℕ) → blank b ≡ true → Takes s t later → next s b ≡ Some s
blank_stays b y head = cond-true _ _ _ y
blank_stays b y opens = cond-true _ _ _ y
blank_stays b y names = cond-true _ _ _ y
blank_stays b y quotes = cond-true _ _ _ y
blank_stays b y divides = cond-true _ _ _ y
blank_stays b y closes = cond-true _ _ _ y

stays : (b : ℕ) (ts : List Token) (s : Stage) → blank b ≡ true → Expects s ts → next s b ≡ Some s
stays b [] s y e = subst (λ v. next v b ≡ Some v) (sym e) (cond-true _ _ _ y)
stays b (t ∷ ts) s y e = blank_stays b y e.1

pub complete : {at : ℕ} {ts : List Placed} {bs : List ℕ} → Laid at ts bs → (s : Stage) → Expects s (tokens ts) → Ended (Some s) bs
complete nothing s e = ap Some e
complete (divider {b = b} {ts = ts} {bs = bs} y l) s e = ap (λ o. run o bs) (stays b (tokens ts) s y e) ∙ complete l s e
complete (token {rest = rest} t p ends l) s e = token_read rest e.1 p ends (complete l e.0 e.2)
