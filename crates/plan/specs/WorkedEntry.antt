-- A worked example of an entry and of the room that it needs.
use Rattle.std.specs.Prelude.{◌≡◌, ℕ, true, List, [], ◌∷◌, slice_set, Option}
use Rattle.grammar.specs.Grammar.{Grammar}
use Rattle.grammar.specs.States.{Automaton}
use Rattle.grammar.specs.declared.action.Action.{Action}
use Rattle.tables.specs.Held.{holding}
use Rattle.line.specs.Answers.{given}
use Rattle.plan.specs.Model.{Model, opened_model}
use Rattle.plan.specs.Steps.{book_step, not_booking}

-- Designer 3 has judged the words 1 2 3 with the rules 2 4 3 1, whatever the states; seven lines were
-- booked before.
abbrev pub judged_plan : List ℕ → Model
judged_plan states =
    record {
      lines = slice_set opened_model.lines 3 (record {
        judged = true;
        line = record {
          states = states;
          words = 1 ∷ 2 ∷ 3 ∷ [];
          rules = 2 ∷ 4 ∷ 3 ∷ 1 ∷ [];
        };
      });
      count = 7;
    }

-- The entry is the designer, 3 words, 4 rules, then the words and the rules: it fits where 10 numbers
-- are free, is the eighth, and leaves a plan as opened but for the count; with 9 free it is refused
-- with 15.
abbrev pub WorkedEntry : Type 0
WorkedEntry =
    (G : Grammar) (n : ℕ) (A : Automaton) (cells : ℕ → ℕ → Option Action) (states : List ℕ)
    → (book_step (holding G n A cells) (judged_plan states) 10 3
    ≡ record {
      answer = given 8;
      next = record { lines = opened_model.lines; count = 8 };
      written = 3 ∷ 3 ∷ 4 ∷ 1 ∷ 2 ∷ 3 ∷ 2 ∷ 4 ∷ 3 ∷ 1 ∷ [];
    })
    × (book_step (holding G n A cells) (judged_plan states) 9 3
    ≡ not_booking (judged_plan states) 15)
