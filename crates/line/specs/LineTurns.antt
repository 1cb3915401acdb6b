-- The turns of one line.
use Rattle.std.specs.Prelude.{ℕ, ◌-◌, Bool, true, false, cond, length, nat_le}
use Rattle.grammar.specs.Line.{Line, Turned, after, refused as halts, take_word, judge_line}
use Rattle.tables.specs.Held.{Held, blank, holding}
use Rattle.line.specs.Steps.{Step, done, refused}
use Rattle.line.specs.PlanLines.{PlanLine, fresh_plan_line}

-- A turn that asks for a judged line, or for an open one: 10 where the line is not so.
abbrev pub asking : {B : Type 0} → Bool → PlanLine → Step PlanLine B → Step PlanLine B
asking true l turn = cond l.judged turn (refused 10)
asking false l turn = cond l.judged (refused 10) turn

-- A word at what tables hold. Blank ones have no word.
abbrev pub taken_by : Held → Line → ℕ → Turned
taken_by blank l w = cond (nat_le 256 (length l.words)) (halts 11) (halts 12)
taken_by (holding G n A cells) l w = take_word G A cells l w

-- The end mark at what tables hold. Blank ones have no action.
abbrev pub judged_by : Held → Line → Turned
judged_by blank l = halts 14
judged_by (holding G n A cells) l = judge_line G A cells l

-- What the machine leaves at a word; given is how many rules it noted.
abbrev pub word_turned : Line → Turned → Step PlanLine ℕ
word_turned l (after k) =
    done (length k.rules - length l.rules) (record { judged = false; line = k })
word_turned l (halts c) = refused c

-- What the machine leaves at the end mark; given is how many words and rules the judged line has.
abbrev pub judge_turned : Turned → Step PlanLine (ℕ × ℕ)
judge_turned (after k) = done (length k.words, length k.rules) (record { judged = true; line = k })
judge_turned (halts c) = refused c

-- A word brought to an open line.
abbrev pub word_on : Held → PlanLine → ℕ → Step PlanLine ℕ
word_on h l w = asking false l (word_turned l.line (taken_by h l.line w))

-- An open line judged.
abbrev pub judge_on : Held → PlanLine → Step PlanLine (ℕ × ℕ)
judge_on h l = asking false l (judge_turned (judged_by h l.line))

-- A judged line, or an open one, made fresh.
abbrev pub freshen_on : Bool → PlanLine → Step PlanLine (Unit {0})
freshen_on judged l = asking judged l (done tt fresh_plan_line)
