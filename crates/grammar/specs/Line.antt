-- The machine with its limits, on a designer's line.
use Rattle.std.specs.Prelude.{◌≡◌, ℕ, zero, suc, ◌-◌, cond, not, List, [], ◌∷◌, ◌++◌, length, drop, nat_le, Option, Some, None}
use Rattle.grammar.specs.Grammar.{Grammar, left_side, right_side}
use Rattle.grammar.specs.Derivation.{is_terminal}
use Rattle.grammar.specs.States.{Automaton}
use Rattle.grammar.specs.declared.action.Action.{Action}
use Rattle.grammar.specs.declared.action.Action.TheVariants.{Shift, Accept, Reduce}

-- A line: its states with the top first, and its words and noted rules with the oldest first.
pub record Line : Type 0 where
  pub states : List ℕ
  pub words : List ℕ
  pub rules : List ℕ

-- A fresh line has state 0 alone.
abbrev pub fresh_line : Line
fresh_line = record { states = 0 ∷ []; words = []; rules = [] }

-- How the machine ends at a word or the end mark: it meets no action; a rule too many would be noted; the word is shifted, or the line accepted, with the states and the rules noted.
pub data Ended : Type 0 where
  stuck : Ended
  full : Ended
  shifted : List ℕ → List ℕ → Ended
  accepted : List ℕ → List ℕ → Ended

abbrev pub noted : ℕ → Ended → Ended
noted r stuck = stuck
noted r full = full
noted r (shifted σ rs) = shifted σ (r ∷ rs)
noted r (accepted σ rs) = accepted σ (r ∷ rs)

-- What an action does on a stack; `reduced` goes on after a reduction.
abbrev pub act : List ℕ → (ℕ → Ended) → Option Action → Ended
act σ reduced None = stuck
act σ reduced (Some (Shift t)) = shifted (t ∷ σ) []
act σ reduced (Some (Reduce r)) = reduced r
act σ reduced (Some Accept) = accepted σ []

-- The state reached by a rule's left side is put on, and the rule is noted.
abbrev pub put_on : (List ℕ → Ended) → ℕ → List ℕ → Option ℕ → Ended
put_on next r σ None = stuck
put_on next r σ (Some t) = noted r (next (t ∷ σ))

abbrev pub go_on : Grammar → Automaton → (List ℕ → Ended) → ℕ → List ℕ → Ended
go_on G A next r [] = stuck
go_on G A next r (q ∷ σ) = put_on next r (q ∷ σ) (A.goto q (left_side G r))

abbrev pub cell_of : (ℕ → ℕ → Option Action) → List ℕ → ℕ → Option Action
cell_of cells [] w = None
cell_of cells (s ∷ σ) w = cells s w

module _ (G : Grammar) (A : Automaton) (cells : ℕ → ℕ → Option Action) where
  -- The machine at a word or the end mark, with room for so many rules.
  unfoldable pub runs : ℕ → ℕ → List ℕ → Ended
  runs zero w σ = act σ (λ r. full) (cell_of cells σ w)
  runs (suc room) w σ = act σ (λ r. go_on G A (runs room w) r (drop (length (right_side G r)) σ)) (cell_of cells σ w)

-- What a turn of the machine leaves: the line changed, or the number of a refusal, and the line as it was.
pub data Turned : Type 0 where
  after : Line → Turned
  refused : ℕ → Turned

abbrev pub after_word : Line → ℕ → Ended → Turned
after_word l w stuck = refused 14
after_word l w full = refused 13
after_word l w (shifted σ rs) = after (record { states = σ; words = l.words ++ w ∷ []; rules = l.rules ++ rs })
after_word l w (accepted σ rs) = refused 14

abbrev pub after_judging : Line → Ended → Turned
after_judging l stuck = refused 14
after_judging l full = refused 13
after_judging l (shifted σ rs) = refused 14
after_judging l (accepted σ rs) = after (record { states = σ; words = l.words; rules = l.rules ++ rs })

module _ (G : Grammar) (A : Automaton) (cells : ℕ → ℕ → Option Action) where
  -- A word brought to an open line: 11 at 256 words, 12 where it is no terminal, 13 at a 769th reduction, 14 where the machine meets no action.
  abbrev pub take_word : Line → ℕ → Turned
  take_word l w = cond (nat_le 256 (length l.words)) (refused 11) (cond (not (is_terminal G w)) (refused 12) (after_word l w (runs G A cells (768 - length l.rules) w l.states)))

  -- An open line judged: 13 at a 769th reduction, 14 where the machine meets no action.
  abbrev pub judge_line : Line → Turned
  judge_line l = after_judging l (runs G A cells (768 - length l.rules) 0 l.states)

  -- The open lines: a fresh one, and each with a word taken.
  pub data Open : Line → Type 0 where
    fresh : Open fresh_line
    taken : {l m : Line} (w : ℕ) → Open l → take_word l w ≡ after m → Open m
