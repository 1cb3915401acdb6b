-- One reduction of a line by what tables hold.
use Rattle.std.specs.Prelude.{ℕ, cond, List, [], ◌∷◌, ◌++◌, length, drop, Ok, Err, Result, nat_le}
use Rattle.std.specs.Prelude.{Option, Some, None}
use Rattle.grammar.specs.Line.{Line, Turned, after, refused}
use Rattle.tables.specs.Held.{Held}
use Rattle.tables.specs.HeldReadings.{goto_of, left_of, length_of}
use Rattle.line.specs.TurnRefusals.{told}
use Rattle.line.specs.declared.turn_refusal.TurnRefusal.{TurnRefusal}

-- The state that the left side leads to is put on, and the rule is noted.
abbrev pub landed : Line → ℕ → List ℕ → Option ℕ → Turned
landed l r σ None = refused 14
landed l r σ (Some t) =
    after (record { states = t ∷ σ; words = l.words; rules = l.rules ++ r ∷ [] })

-- The states of the right side are off; X is the left side.
abbrev pub uncovered : Held → Line → ℕ → ℕ → List ℕ → Turned
uncovered h l r X [] = refused 14
uncovered h l r X (q ∷ σ) = landed l r (q ∷ σ) (goto_of h q X)

-- With the left side read, if the rule has one.
abbrev pub by_left : Held → Line → ℕ → ℕ → Option ℕ → Turned
by_left h l r k None = refused 14
by_left h l r k (Some X) = uncovered h l r X (drop k l.states)

-- With the length of the right side read, if the rule has one.
abbrev pub by_length : Held → Line → ℕ → Option ℕ → Turned
by_length h l r None = refused 14
by_length h l r (Some k) = by_left h l r k (left_of h r)

-- A reduction by a rule: 13 where 768 rules are noted, 14 where the rule, its states or the state
-- that its left side leads to is lacking.
abbrev pub reduction : Held → Line → ℕ → Turned
reduction h l r = cond (nat_le 768 (length l.rules)) (refused 13) (by_length h l r (length_of h r))

-- What a call says of a turn that leaves this line.
abbrev pub turned_to : {B : Type 0} → Result B TurnRefusal → Line → Turned
turned_to (Ok x) l = after l
turned_to (Err e) l = refused (told e).number
