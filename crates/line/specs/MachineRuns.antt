-- How the machine ends on a line.
use Rattle.std.specs.Prelude.{◌≡◌, ℕ, ◌-◌, ◌≤◌, List, ◌∷◌, ◌++◌, length, Ok, Err, Result, Option}
use Rattle.grammar.specs.Grammar.{Grammar}
use Rattle.grammar.specs.States.{Automaton}
use Rattle.grammar.specs.Line.{Line, Ended, stuck, full, shifted, accepted, runs, after_word}
use Rattle.grammar.specs.Line.{after_judging}
use Rattle.grammar.specs.declared.action.Action.{Action}
use Rattle.line.specs.declared.turn_refusal.TurnRefusal.{TurnRefusal}
use Rattle.line.specs.TurnRefusals.{told}
use Rattle.tables.specs.Held.{Held, blank, holding}
use Rattle.line.specs.declared.line.Line.{Line as Arrays}
use Rattle.line.specs.declared.machine.Stop.{Stop}
use Rattle.line.specs.declared.machine.Stop.TheVariants.{Shifted, Accepted}
use Rattle.line.specs.PlanLines.{PlanLine}
use Rattle.line.specs.Steps.{Step, refused}
use Rattle.line.specs.LineTurns.{word_turned, judge_turned}

-- The machine ends so, at a word or the end mark, where it stands on a line.
abbrev pub ends : Grammar → Automaton → (ℕ → ℕ → Option Action) → ℕ → Line → Ended
ends G A cells w l = runs G A cells (768 - length l.rules) w l.states

-- The number of the refusal that tells an end without a shift or an accept.
abbrev pub Halted : ℕ → Ended → Type 0
Halted c stuck = c ≡ 14
Halted c full = c ≡ 13
Halted c (shifted σ ps) = ⊥
Halted c (accepted σ ps) = ⊥

-- The rules ps were noted between two lines, and no word was taken.
pub record Noted (l k : Line) (ps : List ℕ) : Type 0 where
  pub words : k.words ≡ l.words
  pub rules : k.rules ≡ l.rules ++ ps

-- Between two lines in arrays: the status and the number of words are the same, and no rule went.
pub record StatesKept (l k : Arrays) : Type 0 where
  pub status : k.status ≡ l.status
  pub count : k.count ≡ l.count
  pub steps : l.steps ≤ k.steps

-- An end at which the machine stands on the line k: it would shift to a state, or it accepts, or it
-- halts.
abbrev pub EndsAt : Line → Result Stop TurnRefusal → Line → Ended → Type 0
EndsAt l (Ok (Shifted t)) k o = (ps : List ℕ) × Noted l k ps × (o ≡ shifted (t ∷ k.states) ps)
EndsAt l (Ok Accepted) k o = (ps : List ℕ) × Noted l k ps × (o ≡ accepted k.states ps)
EndsAt l (Err e) k o = Halted (told e).number o

-- The machine, run on the line l, ends on the line k. By blank tables it meets no action.
abbrev pub MachineRan : Held → ℕ → Line → Result Stop TurnRefusal → Line → Type 0
MachineRan blank w l (Ok x) k = ⊥
MachineRan blank w l (Err e) k = (told e).number ≡ 14
MachineRan (holding G n A cells) w l r k = EndsAt l r k (ends G A cells w l)

-- The machine takes a word, or refuses it.
abbrev pub Took : Held → ℕ → Line → Step PlanLine ℕ → Type 0
Took blank w l t = Unit {0}
Took (holding G n A cells) w l t = word_turned l (after_word l w (ends G A cells w l)) ≡ t

-- The machine accepts at the end mark, or refuses the line.
abbrev pub Decided : Held → Line → Step PlanLine (ℕ × ℕ) → Type 0
Decided blank l t = refused 14 ≡ t
Decided (holding G n A cells) l t = judge_turned (after_judging l (ends G A cells 0 l)) ≡ t
