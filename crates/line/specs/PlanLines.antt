-- A designer's line as plain values.
use Rattle.std.specs.Prelude.{◌≡◌, Bool, true, false, replicate, reverse, take}
use Rattle.grammar.specs.Line.{Line, fresh_line}
use Rattle.line.specs.declared.line.Line.{Line as Arrays}
use Rattle.line.specs.declared.status.Status.{Status}
use Rattle.line.specs.declared.status.Status.TheVariants.{Open, Judged}

-- A line of the plan, open or judged, with its states, words and rules.
pub record PlanLine : Type 0 where
  pub judged : Bool
  pub line : Line

-- A fresh line is open.
abbrev pub fresh_plan_line : PlanLine
fresh_plan_line = record { judged = false; line = fresh_line }

abbrev pub is_judged : Status → Bool
is_judged Open = false
is_judged Judged = true

-- All memory of a line is 0, in front of its counts and behind them.
abbrev pub Cleared : Arrays → Type 0
Cleared l =
    (l.states ≡ replicate 1025 0) × (l.words ≡ replicate 256 0) × (l.rules ≡ replicate 768 0)

-- What a line stands for: the first `depth` states, the top first, the first `count` words and the
-- first `steps` rules.
abbrev pub plan_line_of : Arrays → PlanLine
plan_line_of l =
    record {
      judged = is_judged l.status;
      line = record {
        states = reverse (take l.depth l.states);
        words = take l.count l.words;
        rules = take l.steps l.rules;
      };
    }
