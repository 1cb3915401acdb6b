-- What a turn that is not refused leaves of an open line.
use Rattle.std.proofs.Common.{◌≡◌, ℕ, ◌-◌, List, [], ◌∷◌, ◌++◌, length, sym, refl, ap, subst, Option}
use Rattle.grammar.specs.Grammar.{Grammar}
use Rattle.grammar.specs.States.{Automaton}
use Rattle.grammar.specs.Cells.{Exact}
use Rattle.grammar.specs.Machine.{Run}
use Rattle.grammar.specs.Line.{Line, Ended, stuck, full, shifted, accepted, runs, after, after_word, after_judging, take_word, judge_line}
use Rattle.grammar.specs.declared.action.Action.{Action}
use Rattle.grammar.proofs.MachineEnds.{Says, says}
use Rattle.grammar.proofs.OpenLines.{same_line, not_after, machine_says}

ended_words : (l k : Line) (o : Ended) → after_judging l o ≡ after k → k.words ≡ l.words
ended_words l k stuck e = cc
ended_words l k full e = cc
ended_words l k (shifted τ ps) e = cc
ended_words l k (accepted τ ps) e = sym (ap (λ m. m.words) (same_line e))

-- Judging leaves the words.
pub judged_words : (G : Grammar) (A : Automaton) (cells : ℕ → ℕ → Option Action) (l k : Line) → judge_line G A cells l ≡ after k → k.words ≡ l.words
judged_words G A cells l k e = ended_words l k (runs G A cells (768 - length l.rules) 0 l.states) e

-- The rules noted on the way over a word, behind those of the line.
pub record NotedAt (G : Grammar) (A : Automaton) (l k : Line) (w : ℕ) : Type 0 where
  pub rules : List ℕ
  pub behind : k.rules ≡ l.rules ++ rules
  pub run : Run G A l.states (w ∷ []) rules k.states []

module _ {G : Grammar} {A : Automaton} where
  ended_rules : {l k : Line} (w : ℕ) (o : Ended) → Says G A (768 - length l.rules) w l.states o → after_word l w o ≡ after k → NotedAt G A l k w
  ended_rules w stuck s e = cc
  ended_rules w full s e = cc
  ended_rules w (accepted τ ps) s e = cc
  ended_rules {l} w (shifted τ ps) s e = subst (λ m. NotedAt G A l m w) (same_line e) (record { rules = ps; behind = refl; run = s.0 [] })

  -- A word taken adds what the machine notes on its way over it.
  pub word_rules : (cells : ℕ → ℕ → Option Action) → Exact G A cells → (l k : Line) (w : ℕ) → take_word G A cells l w ≡ after k → NotedAt G A l k w
  word_rules cells exact l k w e =
      let n = 768 - length l.rules in
      ended_rules w (runs G A cells n w l.states) (says G A cells exact n w l.states) (machine_says G A cells l w e not_after not_after).1
