-- The first name that heads nothing among the tokens that are left, found by calls that tell a token's place if it is one.
use Rattle.std.proofs.Common.{◌≡◌, ℕ, suc, true, cond, not, List, [], ◌∷◌, Some, None, Option, IfSome, IsTrue, MatchOption, slice_get, refl, sym, ap, subst, ◌∙◌, rules}
use Rattle.std.specs.Fn.{Called, Mut}
use Rattle.std.specs.Iterator.{DrainsIf, FindsMapped, Yields, YieldsThen}
use Rattle.std.specs.Iterator.Runs.{AllItemsGive, CallKeepsClosure, Run, SomeRun, YieldsRun}
use Rattle.std.specs.List.{FoldsTo}
use Rattle.written.specs.Lexing.{placed_of}
use Rattle.written.specs.Statements.{member}
use Rattle.written.specs.TokenWalks.{Ahead, GivesToken}
use Rattle.written.specs.Tokens.{Placed}
use Rattle.written.specs.Walks.{first_headless}
use Rattle.written.specs.declared.lexer.Mark.TheVariants.{Colon, Bar, Semicolon}
use Rattle.written.specs.declared.lexer.Token.{Token}
use Rattle.written.specs.declared.lexer.Token.TheVariants.{Name, Word, Mark}
use Rattle.written.specs.declared.tokens.Tokens.{Tokens}

-- The place of a token, if it is a name that is not among the heads.
abbrev pub headless_place : List (List ℕ) → Token → Option ℕ
headless_place heads (Name p) = cond (not (member p.bytes.now heads)) (Some p.at) None
headless_place heads (Word p) = None
headless_place heads (Mark p m) = None

module _ (heads : List (List ℕ)) where
  not_first : (x : Token) (ts rest : List Placed) → ts ≡ placed_of x ∷ rest → headless_place heads x ≡ None → first_headless heads ts ≡ first_headless heads rest
  not_first (Name p) ts rest e n = let here = ap (first_headless heads) e in search (rules, n, here)
  not_first (Word p) ts rest e n = ap (first_headless heads) e
  not_first (Mark p Colon) ts rest e n = ap (first_headless heads) e
  not_first (Mark p Bar) ts rest e n = ap (first_headless heads) e
  not_first (Mark p Semicolon) ts rest e n = ap (first_headless heads) e

  at_first : (x : Token) (p : ℕ) (ts rest : List Placed) → ts ≡ placed_of x ∷ rest → headless_place heads x ≡ Some p → first_headless heads ts ≡ Some p
  at_first (Name q) p ts rest e n = let here = ap (first_headless heads) e in search (rules, n, here)
  at_first (Word q) p ts rest e n = absurd (search rules)
  at_first (Mark q m) p ts rest e n = absurd (search rules)

  -- The calls keep what they know of the closure, such as the text that it reads.
  module _ {F : Type 0} (Knows : F → Type 0) (g : Mut F (Token × Unit {0}) (Option ℕ)) (tells : (p : F) (x : Token) (r : Option ℕ) (q : F) → Knows p → Called g p (x, tt) r q → (r ≡ headless_place heads x) × Knows q) where
    passed : (s t : Tokens) (xs : List Token) (f f' : F) → Knows f → Yields GivesToken s xs t → FoldsTo (λ p x q. Called g p (x, tt) None q) f xs f' → (ts : List Placed) → Ahead s ts → (rest : List Placed) × (first_headless heads ts ≡ first_headless heads rest) × Ahead t rest × Knows f'
    passed s t [] f f' k y h ts a = (ts, refl, subst (λ u. Ahead u ts) y a, subst Knows h k)
    passed s t (x ∷ xs) f f' k y h ts a =
        let given = y.1.1 ts a in
        let told = tells f x None h.0 k h.1 in
        let later = passed y.0 t xs h.0 f' told.1 y.2 h.2 given.0 given.2 in
        (later.0, not_first x ts given.0 given.1 (sym told.0) ∙ later.1, later.2, later.3)

    -- The calls stopped at a name that heads nothing.
    stopped : (s u : Tokens) (xs : List Token) (o : Option Token) (f f' : F) (p : ℕ) → Knows f → YieldsThen GivesToken s xs o u → FoldsTo (λ p x q. Called g p (x, tt) None q) f xs f' → MatchOption o (Some p ≡ None) (λ x. (h : F) × Called g f' (x, tt) (Some p) h) → (ts : List Placed) → Ahead s ts → Some p ≡ first_headless heads ts
    stopped s u xs None f f' p k y h m ts a = absurd (search (rules, m))
    stopped s u xs (Some x) f f' p k y h m ts a =
        let before = passed s y.0 xs f f' k y.1 h ts a in
        let given = y.2.1 before.0 before.2 in
        sym (before.1 ∙ at_first x p before.0 given.0 given.1 (sym (tells f' x (Some p) m.0 before.3 m.1).0))

    -- No token that was left is such a name.
    none_left : (s u : Tokens) (xs : List Token) (f : F) → Knows f → YieldsThen GivesToken s xs None u → ((k : ℕ) → IfSome (slice_get xs k) (λ x. Called g f (x, tt) None f)) → (ts : List Placed) → Ahead s ts → first_headless heads ts ≡ None
    none_left s u [] f k y h ts a = ap (first_headless heads) (y.2 ts (subst (λ t. Ahead t ts) y.1 a))
    none_left s u (x ∷ xs) f k y h ts a =
        let given = y.1.1.1 ts a in
        not_first x ts given.0 given.1 (sym (tells f x None f k (h 0)).0) ∙ none_left y.1.0 u xs f k (y.0, y.1.2, y.2) (λ i. h (suc i)) given.0 given.2

    pub headless_found : (s u : Tokens) (f : F) (r : Option ℕ) (Else : Run GivesToken → ℕ → Type 0) → Knows f → FindsMapped GivesToken g s f r u → SomeRun GivesToken s (λ p. MatchOption r (IsTrue p.whole × AllItemsGive p g f None) (Else p)) → CallKeepsClosure g f → (ts : List Placed) → Ahead s ts → r ≡ first_headless heads ts
    unfolding YieldsRun
    headless_found s u f None Else k found run keeps ts a =
        let p = run.0 in
        let drained = subst (λ v. DrainsIf GivesToken (p.whole ≡ true) v p.items) run.1 p.gave.0 in
        let last = drained.2 run.2.0 in
        sym (none_left s last.0 p.items f k (drained.0, drained.1, last.1) (λ i. subst (λ o. IfSome o (λ x. Called g f (x, tt) None f)) (p.gave.1 i) (run.2.1 keeps i)) ts a)
    headless_found s u f (Some p) Else k found run keeps ts a = stopped s u found.0 found.1 f found.2 p k found.3 found.4 found.5 ts a
