-- A draft that is too much stays too much.
use Rattle.std.proofs.Common.{◌≡◌, ℕ, ◌<◌, ◌≤◌, Some, None, Option, List, [], ◌∷◌, ◌++◌, length, sym, ap, ◌∙◌, subst, ⊎_elim, arith}
use Rattle.std.specs.List.{AllByRecursion}
use Rattle.std.specs.Option.{option_map}
use Rattle.std.proofs.lemmas.List.{append_assoc, append-nil, length-append}
use Rattle.grammar.specs.Grammar.{Rule}
use Rattle.written.specs.Tokens.{Token, name, word, colon, bar, semicolon}
use Rattle.written.specs.Statements.{name_code, word_code}
use Rattle.written.specs.Drafts.{Drafted, draft, named_rule, next_rule, right_of, draft_after, Overfull, Fitting}
use Rattle.sheet.specs.ShortRules.{with_code}

longer : (r : List ℕ) (X : ℕ) → length r ≤ length (r ++ X ∷ [])
longer r X = let long = length-append r (X ∷ []) in omega arith

module _ (T N : List (List ℕ)) where
  -- The rules only grow.
  after_rules : (ts : List Token) (o : Option Rule) (rs : List Rule) → (more : List Rule) × ((draft_after T N (draft o rs) ts).rules ≡ rs ++ more)
  after_rules [] o rs = ([], sym (append-nil rs))
  after_rules (name n ∷ ts) o rs = after_rules ts (named_rule o (name_code T N n)) rs
  after_rules (word w ∷ ts) o rs = after_rules ts (option_map (λ r. with_code r (word_code T N w)) o) rs
  after_rules (colon ∷ ts) o rs = after_rules ts o rs
  after_rules (bar ∷ ts) None rs = after_rules ts None rs
  after_rules (bar ∷ ts) (Some r) rs = let later = after_rules ts (Some (next_rule r)) (rs ++ r ∷ []) in (r ∷ later.0, later.1 ∙ append_assoc rs (r ∷ []) later.0)
  after_rules (semicolon ∷ ts) None rs = after_rules ts None rs
  after_rules (semicolon ∷ ts) (Some r) rs = let later = after_rules ts None (rs ++ r ∷ []) in (r ∷ later.0, later.1 ∙ append_assoc rs (r ∷ []) later.0)

  -- A right side that is too long ends as one of the rules.
  abbrev TooLong : List Rule → Type 0
  TooLong rules = (before : List Rule) × (r : Rule) × (more : List Rule) × (rules ≡ before ++ r ∷ more) × (8 < length r.right)

  after_long : (ts : List Token) (r : Rule) (rs : List Rule) → 8 < length r.right → (draft_after T N (draft (Some r) rs) ts).rule ≡ None → TooLong (draft_after T N (draft (Some r) rs) ts).rules
  after_long [] r rs h e = cc
  after_long (name n ∷ ts) r rs h e = let X = name_code T N n in let more = longer r.right X in after_long ts (with_code r X) rs (omega arith) e
  after_long (word w ∷ ts) r rs h e = let X = word_code T N w in let more = longer r.right X in after_long ts (with_code r X) rs (omega arith) e
  after_long (colon ∷ ts) r rs h e = after_long ts r rs h e
  after_long (bar ∷ ts) r rs h e = let later = after_rules ts (Some (next_rule r)) (rs ++ r ∷ []) in (rs, r, later.0, later.1 ∙ append_assoc rs (r ∷ []) later.0, h)
  after_long (semicolon ∷ ts) r rs h e = let later = after_rules ts None (rs ++ r ∷ []) in (rs, r, later.0, later.1 ∙ append_assoc rs (r ∷ []) later.0, h)

  all_at : (P : Rule → Type 0) (before : List Rule) (r : Rule) (more : List Rule) → AllByRecursion P (before ++ r ∷ more) → P r
  all_at P [] r more a = a.0
  all_at P (x ∷ before) r more a = all_at P before r more a.1

  long_fails : (ts : List Token) (o : Option Rule) (rs : List Rule) → 8 < length (right_of o) → (draft_after T N (draft o rs) ts).rule ≡ None → Fitting (draft_after T N (draft o rs) ts).rules → ⊥
  long_fails ts None rs h e f = omega arith
  long_fails ts (Some r) rs h e f =
      let bad = after_long ts r rs h e in
      let here = all_at (λ r. length r.right ≤ 8) bad.0 bad.1 bad.2 (subst (AllByRecursion (λ r. length r.right ≤ 8)) bad.3 f.short) in
      omega (arith, bad.4)

  pub overfull_fails : (ts : List Token) (d : Drafted) → Overfull d → (draft_after T N d ts).rule ≡ None → Fitting (draft_after T N d ts).rules → ⊥
  overfull_fails ts d o e f =
      ⊎_elim
      (λ long. long_fails ts d.rule d.rules long e f)
      (λ many.
      let later = after_rules ts d.rule d.rules in
      let size = length-append d.rules later.0 in
      omega (arith, ap length later.1, f.few))
      o
