-- The first word among the tokens that are left, found by calls that tell what a token spells if it is a word.
use Rattle.std.proofs.Common.{◌≡◌, ℕ, suc, true, List, [], ◌∷◌, Bor, Some, None, Option, IfSome, IsTrue, MatchOption, slice_get, refl, sym, ap, subst, ◌∙◌, rules}
use Rattle.std.specs.Fn.{Called, Mut}
use Rattle.std.specs.Iterator.{DrainsIf, FindsMapped, Yields, YieldsThen}
use Rattle.std.specs.Iterator.Runs.{AllItemsGive, CallKeepsClosure, Run, SomeRun, YieldsRun}
use Rattle.std.specs.List.{FoldsTo}
use Rattle.written.specs.Lexing.{placed_of}
use Rattle.written.specs.Statements.{words_in}
use Rattle.written.specs.TokenWalks.{Ahead, GivesToken}
use Rattle.written.specs.Tokens.{Placed, tokens}
use Rattle.written.specs.Walks.{GivesWord}
use Rattle.written.specs.declared.lexer.Mark.TheVariants.{Colon, Bar, Semicolon}
use Rattle.written.specs.declared.lexer.Token.{Token}
use Rattle.written.specs.declared.lexer.Token.TheVariants.{Name, Word, Mark}
use Rattle.written.specs.declared.tokens.Tokens.{Tokens}
use Rattle.written.specs.declared.words.Words.{Words}

-- The spelling of a token, if it is a word.
abbrev pub word_part : Token → Option (Bor (List ℕ))
word_part (Name p) = None
word_part (Word p) = Some p.bytes
word_part (Mark p m) = None

no_word : (x : Token) (ts rest : List Placed) → ts ≡ placed_of x ∷ rest → word_part x ≡ None → words_in (tokens ts) ≡ words_in (tokens rest)
no_word (Name p) ts rest e n = ap (λ ps. words_in (tokens ps)) e
no_word (Word p) ts rest e n = absurd (search rules)
no_word (Mark p Colon) ts rest e n = ap (λ ps. words_in (tokens ps)) e
no_word (Mark p Bar) ts rest e n = ap (λ ps. words_in (tokens ps)) e
no_word (Mark p Semicolon) ts rest e n = ap (λ ps. words_in (tokens ps)) e

one_word : (x : Token) (w : Bor (List ℕ)) (ts rest : List Placed) → ts ≡ placed_of x ∷ rest → word_part x ≡ Some w → words_in (tokens ts) ≡ w.now ∷ words_in (tokens rest)
one_word (Name p) w ts rest e n = absurd (search rules)
one_word (Word p) w ts rest e n = let here = ap (λ ps. words_in (tokens ps)) e in search (rules, n, here)
one_word (Mark p m) w ts rest e n = absurd (search rules)

module _ {F : Type 0} (g : Mut F (Token × Unit {0}) (Option (Bor (List ℕ)))) (tells : (p : F) (x : Token) (r : Option (Bor (List ℕ))) (q : F) → Called g p (x, tt) r q → r ≡ word_part x) where
  passed : (s t : Tokens) (xs : List Token) (f f' : F) → Yields GivesToken s xs t → FoldsTo (λ p x q. Called g p (x, tt) None q) f xs f' → (ts : List Placed) → Ahead s ts → (rest : List Placed) × (words_in (tokens ts) ≡ words_in (tokens rest)) × Ahead t rest
  passed s t [] f f' y h ts a = (ts, refl, subst (λ u. Ahead u ts) y a)
  passed s t (x ∷ xs) f f' y h ts a =
      let given = y.1.1 ts a in
      let later = passed y.0 t xs h.0 f' y.2 h.2 given.0 given.2 in
      (later.0, no_word x ts given.0 given.1 (sym (tells f x None h.0 h.1)) ∙ later.1, later.2)

  -- The calls stopped at a word.
  stopped : (s u : Tokens) (xs : List Token) (o : Option Token) (f f' : F) (w : Bor (List ℕ)) → YieldsThen GivesToken s xs o u → FoldsTo (λ p x q. Called g p (x, tt) None q) f xs f' → MatchOption o (Some w ≡ None) (λ x. (h : F) × Called g f' (x, tt) (Some w) h) → (ts : List Placed) → Ahead s ts → (rest : List Placed) × (words_in (tokens ts) ≡ w.now ∷ words_in (tokens rest)) × Ahead u rest
  stopped s u xs None f f' w y h m ts a = absurd (search (rules, m))
  stopped s u xs (Some x) f f' w y h m ts a =
      let before = passed s y.0 xs f f' y.1 h ts a in
      let given = y.2.1 before.0 before.2 in
      (given.0, before.1 ∙ one_word x w before.0 given.0 given.1 (sym (tells f' x (Some w) m.0 m.1)), given.2)

  -- No token that was left is a word.
  none_left : (s u : Tokens) (xs : List Token) (f : F) → YieldsThen GivesToken s xs None u → ((k : ℕ) → IfSome (slice_get xs k) (λ x. Called g f (x, tt) None f)) → (ts : List Placed) → Ahead s ts → words_in (tokens ts) ≡ []
  none_left s u [] f y h ts a = ap (λ ps. words_in (tokens ps)) (y.2 ts (subst (λ t. Ahead t ts) y.1 a))
  none_left s u (x ∷ xs) f y h ts a =
      let given = y.1.1.1 ts a in
      no_word x ts given.0 given.1 (sym (tells f x None f (h 0))) ∙ none_left y.1.0 u xs f (y.0, y.1.2, y.2) (λ k. h (suc k)) given.0 given.2

  pub first_word : (s : Words) (u : Tokens) (f : F) (r : Option (Bor (List ℕ))) (Else : Run GivesToken → Bor (List ℕ) → Type 0) → FindsMapped GivesToken g s.tokens f r u → SomeRun GivesToken s.tokens (λ p. MatchOption r (IsTrue p.whole × AllItemsGive p g f None) (Else p)) → CallKeepsClosure g f → GivesWord s r (record { tokens = u })
  unfolding YieldsRun
  first_word s u f None Else found run keeps =
      let p = run.0 in
      let drained = subst (λ v. DrainsIf GivesToken (p.whole ≡ true) v p.items) run.1 p.gave.0 in
      let last = drained.2 run.2.0 in
      λ ts a. none_left s.tokens last.0 p.items f (drained.0, drained.1, last.1) (λ k. subst (λ o. IfSome o (λ x. Called g f (x, tt) None f)) (p.gave.1 k) (run.2.1 keeps k)) ts a
  first_word s u f (Some w) Else found run keeps = λ ts a. stopped s.tokens u found.0 found.1 f found.2 w found.3 found.4 found.5 ts a
