-- What a plan and its book show of the turns since the opening.
use Rattle.std.specs.Prelude.{◌≡◌, ℕ, ◌-◌, ◌^◌, ◌≤◌, min, Bool, true, false, List, [], ◌∷◌, ◌++◌}
use Rattle.std.specs.Prelude.{map, length, reverse, Option}
use Rattle.grammar.specs.Grammar.{Grammar}
use Rattle.grammar.specs.Derivation.{Derives}
use Rattle.grammar.specs.Line.{Line}
use Rattle.grammar.specs.declared.action.Action.{Action}
use Rattle.line.specs.PlanLines.{PlanLine}
use Rattle.plan.specs.Turns.{Turn}
use Rattle.plan.specs.Account.{AccountLine, account}
use Rattle.plan.specs.TableRuns.{Run}
use Rattle.plan.specs.Model.{Model, plan_line}
use Rattle.plan.specs.Law.{Law}

-- What a line of the plan is in the account.
abbrev pub account_line : PlanLine → AccountLine
account_line l = record { judged = l.judged; words = l.line.words }

module _ (G : Grammar) (goto : ℕ → ℕ → Option ℕ) (cells : ℕ → ℕ → Option Action) where
  -- A line within its limits that is where the machine, run over its words, stands, whatever comes
  -- next.
  pub record Behind (l : Line) : Type 0 where
    pub few_words : length l.words ≤ 256
    pub few_rules : length l.rules ≤ 768
    pub run : (k : List ℕ) → Run G goto cells (0 ∷ []) (l.words ++ k) l.rules l.states k

  -- An open line is behind its words; the rules of a judged one, reversed, are a derivation of its
  -- words.
  abbrev pub Stands : Bool → Line → Type 0
  Stands false l = Behind l
  Stands true l = Derives G (reverse l.rules) l.words

  -- The plan's lines and count are those of the account of the turns, and the law holds of the
  -- turns and the book; b₀ is the book's list and n₀ its free count at the opening.
  pub record Shows (turns : List Turn) (b₀ : List ℕ) (n₀ : ℕ) (m : Model)
      (list : List ℕ) (free : ℕ) : Type 0 where
    pub eight : length m.lines ≡ 8
    pub lines : (account turns).lines ≡ map account_line m.lines
    pub stands : (d : ℕ) → Stands (plan_line m d).judged (plan_line m d).line
    pub count : m.count ≡ min (length (account turns).booked) (2 ^ 64 - 1)
    pub law : Law G goto cells b₀ n₀ turns list free
