-- A text that is read to its end is laid of the tokens of statements.
use Rattle.std.proofs.Common.{◌≡◌, ℕ, suc, ◌+◌, ◌≤◌, true, cond, ltb, List, [], ◌∷◌, ◌++◌, length, Some, None, sym, refl, ap, ◌∙◌, subst, append_assoc, arith}
use Rattle.std.proofs.lemmas.Bool.{and_parts, eqb-true, ltb-true}
use Rattle.written.specs.Tokens.{Token, name, word, colon, bar, semicolon, spelling, blank, letter, quotable, Each, Proper, NoLetter, Ends, Placed, tokens, Laid, nothing, divider, token}
use Rattle.written.specs.Stages.{next}
use Rattle.written.specs.declared.form.Stage.{Stage}
use Rattle.written.specs.declared.form.Stage.TheVariants.{Between, Head, Headed, Body, Name, Word}
use Rattle.written.proofs.ExpectedTokens.{Takes, head, opens, names, quotes, divides, closes, Expects}
use Rattle.written.proofs.FormRuns.{Ended, none_ended, ended_cases}

-- From the place on, the bytes are laid of tokens that lead from the stage to the end of a sheet.
pub record Reads (s : Stage) (bs : List ℕ) (at : ℕ) : Type 0 where
  pub placed : List Placed
  pub laid : Laid at placed bs
  pub expects : Expects s (tokens placed)

-- A name of which n letters are read goes on in the bytes, and the stage follows it.
record NameEnd (behind : Stage) (n : ℕ) (bs : List ℕ) : Type 0 where
  letters : List ℕ
  rest : List ℕ
  is : bs ≡ letters ++ rest
  each : Each letter letters
  few : n + length letters ≤ 24
  ends : NoLetter rest
  reads : (at : ℕ) → Reads behind rest at

-- A word of which n bytes are read goes on in the bytes.
record WordEnd (n : ℕ) (bs : List ℕ) : Type 0 where
  inner : List ℕ
  rest : List ℕ
  is : bs ≡ inner ++ (34 ∷ rest)
  each : Each quotable inner
  some_byte : 1 ≤ n + length inner
  few : n + length inner ≤ 24
  reads : (at : ℕ) → Reads Body rest at

-- What the bytes from a stage on are.
abbrev Rest : Stage → List ℕ → Type 0
Rest Between bs = (at : ℕ) → Reads Between bs at
Rest (Head n) bs = n ≤ 24 → NameEnd Headed n bs
Rest Headed bs = (at : ℕ) → Reads Headed bs at
Rest Body bs = (at : ℕ) → Reads Body bs at
Rest (Name n) bs = n ≤ 24 → NameEnd Body n bs
Rest (Word n) bs = n ≤ 24 → WordEnd n bs

-- One blank more, or one token more, at the front.
reads_blank : (s : Stage) (b : ℕ) (bs : List ℕ) → blank b ≡ true → ((at : ℕ) → Reads s bs at) → (at : ℕ) → Reads s (b ∷ bs) at
reads_blank s b bs y more at = let r = more (suc at) in record { placed = r.placed; laid = divider y r.laid; expects = r.expects }

reads_token : (s later : Stage) (t : Token) (bs rest : List ℕ) → bs ≡ spelling t ++ rest → Takes s t later → Proper t → Ends t rest → ((at : ℕ) → Reads later rest at) → (at : ℕ) → Reads s bs at
reads_token s later t bs rest is takes proper ends more at =
    let r = more (at + length (spelling t)) in
    let ts : List Placed = record { place = at; token = t } ∷ r.placed in
    record { placed = ts; laid = subst (Laid at ts) (sym is) (token t proper ends r.laid); expects = (later, takes, r.expects) }

reads_name : (s later : Stage) (b : ℕ) (bs : List ℕ) → letter b ≡ true → ((l : List ℕ) → Takes s (name l) later) → NameEnd later 1 bs → (at : ℕ) → Reads s (b ∷ bs) at
reads_name s later b bs y takes e =
    reads_token s later (name (b ∷ e.letters)) (b ∷ bs) e.rest (ap (λ l. b ∷ l) e.is) (takes (b ∷ e.letters)) (record { each = (y, e.each); some_byte = omega arith; few = omega (arith, e.few) }) e.ends e.reads

reads_word : (b : ℕ) (bs : List ℕ) → b ≡ 34 → WordEnd 0 bs → (at : ℕ) → Reads Body (b ∷ bs) at
reads_word b bs quote e =
    reads_token Body Body (word e.inner) (b ∷ bs) e.rest
    (ap (λ x. x ∷ bs) quote ∙ ap (λ l. 34 ∷ l) (e.is ∙ sym (append_assoc e.inner (34 ∷ []) e.rest)))
    quotes (record { each = e.each; some_byte = omega (arith, e.some_byte); few = omega (arith, e.few) }) tt e.reads

reads_sign : (s later : Stage) (t : Token) (b k : ℕ) (bs : List ℕ) → b ≡ k → spelling t ≡ k ∷ [] → Takes s t later → Proper t → ((rest : List ℕ) → Ends t rest) → ((at : ℕ) → Reads later bs at) → (at : ℕ) → Reads s (b ∷ bs) at
reads_sign s later t b k bs e spelt takes proper ends = reads_token s later t (b ∷ bs) bs (ap (λ x. x ∷ bs) e ∙ ap (λ l. l ++ bs) (sym spelt)) takes proper (ends bs)

-- The bytes from each stage on, with one byte before bytes of which that is known.
module _ (bs : List ℕ) (known : (s : Stage) → Ended (Some s) bs → Rest s bs) (b : ℕ) where
  between_more : Ended (next Between b) bs → (at : ℕ) → Reads Between (b ∷ bs) at
  between_more =
      ended_cases _ _ _ bs (λ y h. reads_blank Between b bs y (known Between h))
      (λ dark. ended_cases _ _ _ bs (λ y h. reads_name Between Headed b bs y (λ l. head) (known (Head 1) h (omega arith)))
      (λ other h. absurd (none_ended bs h)))

  headed_more : Ended (next Headed b) bs → (at : ℕ) → Reads Headed (b ∷ bs) at
  headed_more =
      ended_cases _ _ _ bs (λ y h. reads_blank Headed b bs y (known Headed h))
      (λ dark. ended_cases _ _ _ bs (λ y h. reads_sign Headed Body colon b 58 bs (eqb-true b 58 y) refl opens tt (λ rest. tt) (known Body h))
      (λ other h. absurd (none_ended bs h)))

  body_more : Ended (next Body b) bs → (at : ℕ) → Reads Body (b ∷ bs) at
  body_more =
      ended_cases _ _ _ bs (λ y h. reads_blank Body b bs y (known Body h))
      (λ dark. ended_cases _ _ _ bs (λ y h. reads_name Body Body b bs y (λ l. names) (known (Name 1) h (omega arith)))
      (λ apart. ended_cases _ _ _ bs (λ y h. reads_word b bs (eqb-true b 34 y) (known (Word 0) h (omega arith)))
      (λ plain. ended_cases _ _ _ bs (λ y h. reads_sign Body Body bar b 124 bs (eqb-true b 124 y) refl divides tt (λ rest. tt) (known Body h))
      (λ whole. ended_cases _ _ _ bs (λ y h. reads_sign Body Between semicolon b 59 bs (eqb-true b 59 y) refl closes tt (λ rest. tt) (known Between h))
      (λ other h. absurd (none_ended bs h))))))

  name_more : (n : ℕ) (within : ℕ → Stage) (behind : Stage) → (Ended (Some (within (n + 1))) bs → n + 1 ≤ 24 → NameEnd behind (n + 1) bs) → (Ended (next behind b) bs → (at : ℕ) → Reads behind (b ∷ bs) at) → n ≤ 24 → Ended (cond (letter b) (cond (ltb n 24) (Some (within (n + 1))) None) (next behind b)) bs → NameEnd behind n (b ∷ bs)
  name_more n within behind goes ended few =
      ended_cases _ _ _ bs
      (λ y. ended_cases (ltb n 24) (Some (within (n + 1))) None bs
      (λ room h. let e = goes h (omega (arith, ltb-true n 24 room)) in record { letters = b ∷ e.letters; rest = e.rest; is = ap (λ l. b ∷ l) e.is; each = (y, e.each); few = omega (arith, e.few); ends = e.ends; reads = e.reads })
      (λ full h. absurd (none_ended bs h)))
      (λ other h. record { letters = []; rest = b ∷ bs; is = refl; each = tt; few = omega arith; ends = other; reads = ended h })

  word_more : (n : ℕ) → n ≤ 24 → Ended (next (Word n) b) bs → WordEnd n (b ∷ bs)
  word_more n few =
      ended_cases _ _ _ bs
      (λ quote. ended_cases _ _ _ bs
      (λ some_byte h. let least = ltb-true 0 n some_byte in record { inner = []; rest = bs; is = ap (λ x. x ∷ bs) (eqb-true b 34 quote); each = tt; some_byte = omega arith; few = omega arith; reads = known Body h })
      (λ empty h. absurd (none_ended bs h)))
      (λ plain. ended_cases _ _ _ bs
      (λ y h.
      let both = and_parts (quotable b) (ltb n 24) y in
      let room = ltb-true n 24 both.1 in
      let e = known (Word (n + 1)) h (omega arith) in
      record { inner = b ∷ e.inner; rest = e.rest; is = ap (λ l. b ∷ l) e.is; each = (both.0, e.each); some_byte = omega arith; few = omega (arith, e.few); reads = e.reads })
      (λ other h. absurd (none_ended bs h)))

  rest_more : (s : Stage) → Ended (Some s) (b ∷ bs) → Rest s (b ∷ bs)
  rest_more Between h = between_more h
  rest_more (Head n) h = λ few. name_more n Head Headed (known (Head (n + 1))) headed_more few h
  rest_more Headed h = headed_more h
  rest_more Body h = body_more h
  rest_more (Name n) h = λ few. name_more n Name Body (known (Name (n + 1))) body_more few h
  rest_more (Word n) h = λ few. word_more n few h

rest_of : (bs : List ℕ) (s : Stage) → Ended (Some s) bs → Rest s bs
rest_of [] s h = let e : s ≡ Between = cc in subst (λ v. Rest v []) (sym e) (λ at. record { placed = []; laid = nothing; expects = refl })
rest_of (b ∷ bs) s h = rest_more bs (rest_of bs) b s h

pub sound : (bs : List ℕ) → Ended (Some Between) bs → Reads Between bs 0
sound bs h = rest_of bs Between h 0
