-- What walks over the tokens of a text give: all of them, or all that is picked out of them.
use Rattle.std.proofs.Common.{◌≡◌, ℕ, List, [], ◌∷◌, true, refl, subst}
use Rattle.std.specs.Iterator.{AlwaysYields}
use Rattle.std.proofs.lemmas.Iterator.{YieldsList}
use Rattle.written.specs.TokenWalks.{Ahead, GivesSpelling}
use Rattle.written.specs.Tokens.{Token, Placed, tokens}
use Rattle.written.specs.Statements.{words_in}
use Rattle.written.specs.Walks.{GivesHead, GivesWord, heads_from, heads_in}
use Rattle.written.specs.declared.heads.Heads.{Heads}
use Rattle.written.specs.declared.words.Words.{Words}
use Rattle.written.specs.declared.tokens.Tokens.{Tokens}

module _ {S : Type 0} (walk : S → Tokens) (picked : S → List Token → List (List ℕ)) where
  always : (ys : List (List ℕ)) (s : S) (ts : List Placed) → Ahead (walk s) ts → picked s (tokens ts) ≡ ys → AlwaysYields (GivesSpelling walk picked) (λ b. b.now) s ys
  always [] s ts a e = λ x j g. let given = g ts a in let none = given.1 in cc
  always (y ∷ ys) s ts a e = (
    (λ j g. let none = g ts a in cc),
    λ x j g. let given = g ts a in let here = given.1 in (cc, always ys j given.0 given.2 (cc)),
  )

  spellings_yielded : (s : S) (ts : List Placed) → Ahead (walk s) ts → YieldsList (GivesSpelling walk picked) (λ b. b.now) s (picked s (tokens ts))
  spellings_yielded s ts a = record { runs = always (picked s (tokens ts)) s ts a refl }

-- The words and the heads of a text.
pub words_yielded : (s : Words) (ts : List Placed) → Ahead s.tokens ts → YieldsList GivesWord (λ b. b.now) s (words_in (tokens ts))
words_yielded = spellings_yielded (λ s. s.tokens) (λ s ts. words_in ts)

pub heads_yielded : (s : Heads) (ts : List Placed) → s.between ≡ true → Ahead s.tokens ts → YieldsList GivesHead (λ b. b.now) s (heads_in (tokens ts))
heads_yielded s ts e a = subst (λ b. YieldsList GivesHead (λ b. b.now) s (heads_from b (tokens ts))) e (spellings_yielded (λ s. s.tokens) (λ s ts. heads_from s.between ts) s ts a)
