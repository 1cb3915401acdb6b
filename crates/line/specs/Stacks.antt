-- The stack of states of a line, as the machine works on it.
use Rattle.std.specs.Prelude.{◌≡◌, ℕ, ◌+◌, List, [], ◌∷◌, ◌++◌, drop, Some, None, Option}
use Rattle.line.specs.PlanLines.{PlanLine}

-- Under so many states lies another, or none.
abbrev pub Under : List ℕ → ℕ → Option ℕ → Type 0
Under σ k (Some q) = drop k σ ≡ q ∷ drop (k + 1) σ
Under σ k None = drop k σ ≡ []

-- The line with a state in the place of the topmost k, and the rule noted.
abbrev pub replaced : PlanLine → ℕ → ℕ → ℕ → PlanLine
replaced l k to rule =
    record {
      judged = l.judged;
      line = record {
        states = to ∷ drop k l.line.states;
        words = l.line.words;
        rules = l.line.rules ++ rule ∷ [];
      };
    }

-- The line with one state more, and the word taken.
abbrev pub shifted : PlanLine → ℕ → ℕ → PlanLine
shifted l to word =
    record {
      judged = l.judged;
      line = record {
        states = to ∷ l.line.states;
        words = l.line.words ++ word ∷ [];
        rules = l.line.rules;
      };
    }
