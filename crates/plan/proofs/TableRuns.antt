-- Runs by what cells have to hold, and by what exact cells hold.
use Rattle.std.proofs.Common.{◌≡◌, ℕ, List, Option, Some, arith}
use Rattle.grammar.specs.Grammar.{Grammar}
use Rattle.grammar.specs.States.{Automaton}
use Rattle.grammar.specs.Cells.{Holds, Exact}
use Rattle.grammar.specs.Machine.{Goes, halt, shift, reduce, Run as HoldingRun, FewReductions as FewHolding}
use Rattle.grammar.specs.declared.action.Action.{Action}
use Rattle.grammar.specs.Line.{Line, fresh_line}
use Rattle.grammar.proofs.OpenLines.{Standing}
use Rattle.plan.specs.TableRuns.{Run, FewReductions}
use Rattle.plan.specs.Shows.{Behind}

-- What holds more makes the same runs.
goes_on : (G : Grammar) (goto : ℕ → ℕ → Option ℕ) (P Q : ℕ → ℕ → Action → Type 0) → ((s w : ℕ) (a : Action) → P s w a → Q s w a) → {σ i ps τ j : List ℕ} → Goes G goto P σ i ps τ j → Goes G goto Q σ i ps τ j
goes_on G goto P Q f halt = halt
goes_on G goto P Q f (shift h x) = shift (f _ _ _ h) (goes_on G goto P Q f x)
goes_on G goto P Q f (reduce h d g x) = reduce (f _ _ _ h) d g (goes_on G goto P Q f x)

module _ (G : Grammar) (A : Automaton) (cells : ℕ → ℕ → Option Action) (exact : Exact G A cells) where
  pub run_told : {σ i ps τ j : List ℕ} → HoldingRun G A σ i ps τ j → Run G A.goto cells σ i ps τ j
  run_told x = goes_on G A.goto (Holds G A) (λ s w a. cells s w ≡ Some a) (λ s w a. (exact s w a).1) x

  pub run_holding : {σ i ps τ j : List ℕ} → Run G A.goto cells σ i ps τ j → HoldingRun G A σ i ps τ j
  run_holding x = goes_on G A.goto (λ s w a. cells s w ≡ Some a) (Holds G A) (λ s w a. (exact s w a).0) x

  pub few_told : {ws : List ℕ} → FewHolding G A ws → FewReductions G A.goto cells ws
  few_told f = λ ps τ j x. f ps τ j (run_holding x)

  pub few_holding : {ws : List ℕ} → FewReductions G A.goto cells ws → FewHolding G A ws
  few_holding f = λ ps τ j x. f ps τ j (run_told x)

  -- Where a line stands.
  pub behind_told : {l : Line} → Standing G A l → Behind G A.goto cells l
  behind_told st = record { few_words = st.few_words; few_rules = st.few_rules; run = λ k. run_told (st.run k) }

  pub behind_holding : {l : Line} → Behind G A.goto cells l → Standing G A l
  behind_holding b = record { few_words = b.few_words; few_rules = b.few_rules; run = λ k. run_holding (b.run k) }

-- A fresh line.
pub fresh_behind : (G : Grammar) (goto : ℕ → ℕ → Option ℕ) (cells : ℕ → ℕ → Option Action) → Behind G goto cells fresh_line
fresh_behind G goto cells = record { few_words = omega arith; few_rules = omega arith; run = λ k. halt }
