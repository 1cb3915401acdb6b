-- From which dot on a right side is nullable.
use Rattle.std.proofs.Common.{◌≡◌, ℕ, zero, suc, ◌+◌, ◌<◌, ◌≤◌, Bool, true, false, List, length, get_or, drop, sym, subst, Some, inl, inr, arith}
use Rattle.std.specs.List.{slice_get}
use Rattle.std.proofs.lemmas.Option.{slice_get-get_or}
use Rattle.std.proofs.lemmas.Bool.{both_ways, cases_lt}
use Rattle.grammar.specs.Grammar.{Grammar, right_side}
use Rattle.grammar.specs.Trees.{AllNullable}
use Rattle.tables.specs.declared.rules.Rules.{Rules}
use Rattle.tables.specs.Arrays.{grammar_of}
use Rattle.tables.specs.IncludeSteps.{NullableFrom}
use Rattle.tables.specs.NullableMarks.{NullableMarks}
use Rattle.tables.proofs.RuleCodes.{nullable_end, nullable_more, nullable_first, nullable_later}

module _ (R : Rules) (null : List Bool) (N : NullableMarks (grammar_of R) null) (r : ℕ) where
  abbrev G : Grammar
  G = grammar_of R

  -- The codes of the rule's right side, as the code reads them.
  module _ (codes : List ℕ) (same : codes ≡ right_side G r) where
    abbrev Rest : ℕ → Type 0
    Rest d = AllNullable G (drop d codes)

    abbrev marked : ℕ → Bool
    marked d = get_or null (get_or codes d 0) false

    code_there : (d : ℕ) → d < length codes → slice_get codes d ≡ Some (get_or codes d 0)
    code_there d k = slice_get-get_or codes d 0 k

    -- Nullable from a dot on, if all codes behind it are.
    rest_from : (n d : ℕ) → length codes ≤ d + n → ((k : ℕ) → d ≤ k → k < length codes → marked k ≡ true) → Rest d
    rest_from zero d h m = nullable_end G codes d (omega arith)
    rest_from (suc n) d h m =
        elim (cases_lt d (length codes)) [
          | inl l ↦ nullable_more G codes d _ (code_there d l) (N.sound _ (m d (omega arith) l)) (rest_from n (suc d) (omega arith) (λ k a b. m k (omega arith) b))
          | inr l ↦ nullable_end G codes d l
        ]

    -- Where every code is marked.
    pub from_all : ((k : ℕ) → k < length codes → marked k ≡ true) → NullableFrom G r 0
    from_all m = record {
      sound = λ d h. subst (λ l. AllNullable G (drop d l)) same (rest_from (length codes) d (omega arith) (λ k a b. m k b));
      whole = λ d a. omega arith;
    }

    -- Where one code is not marked, and all behind it are.
    pub from_last : (i : ℕ) → i < length codes → marked i ≡ false → ((k : ℕ) → i + 1 ≤ k → k < length codes → marked k ≡ true) → NullableFrom G r (i + 1)
    from_last i l u m = record {
      sound = λ d h. subst (λ l. AllNullable G (drop d l)) same (rest_from (length codes) d (omega arith) (λ k a b. m k (omega arith) b));
      whole = λ d a.
          elim (cases_lt i d) [
            | inl lt ↦ omega arith
            | inr ge ↦ absurd (both_ways (marked i) u (N.whole _ (nullable_first G codes i _ (code_there i l) (nullable_later G codes d i ge (subst (λ l. AllNullable G (drop d l)) (sym same) a)))))
          ];
    }
