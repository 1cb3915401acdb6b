-- What follows for a text once its bytes before a place are read.
use Rattle.std.proofs.Common.{◌≡◌, ℕ, suc, ◌+◌, ◌<◌, ◌≤◌, List, [], ◌∷◌, length, get_or, take, drop, Some, None, sym, refl, ap, ◌∙◌, subst, add-one, arith, take-append-drop}
use Rattle.std.proofs.lemmas.List.{take_all, take_more}
use Rattle.written.specs.Form.{WellFormed, Misplaced}
use Rattle.written.specs.Stages.{onward, next, run}
use Rattle.written.specs.declared.form.Stage.{Stage}
use Rattle.written.specs.declared.form.Stage.TheVariants.{Between}
use Rattle.written.proofs.FormRuns.{run_append}
use Rattle.written.proofs.FormViable.{well_formed_ended, ended_well_formed, viable_run, fault_not_viable}

-- The bytes before the place are read, to the stage; and what to tell if the next cannot be read, and at the end of the text.
pub record Sofar (text : List ℕ) (at : ℕ) (s : Stage) : Type 0 where
  pub read : run (Some Between) (take at text) ≡ Some s
  pub stops : at < length text → None ≡ next s (get_or text at 0) → Misplaced text at
  pub ends_well : length text ≤ at → s ≡ Between → WellFormed text
  pub ends_early : length text ≤ at → (s ≡ Between → ⊥) → Misplaced text (length text)

module _ (text : List ℕ) (at : ℕ) (s : Stage) (read : run (Some Between) (take at text) ≡ Some s) where
  run_more : at < length text → run (Some Between) (take (at + 1) text) ≡ next s (get_or text at 0)
  run_more within =
      ap (run (Some Between)) (take_more text at 0 within) ∙ run_append (Some Between) (take at text) (get_or text at 0 ∷ []) ∙ ap (λ o. onward o (get_or text at 0)) read

  run_all : length text ≤ at → run (Some Between) text ≡ Some s
  run_all past = ap (run (Some Between)) (sym (take_all at text past)) ∙ read

  stopped : at < length text → None ≡ next s (get_or text at 0) → Misplaced text at
  stopped within fault =
      let here = ap (λ k. run (Some Between) (take k text)) (sym (add-one at)) ∙ run_more within ∙ sym fault in
      let never = fault_not_viable (take (suc at) text) here in
      record {
        ill_formed = λ w. never (record { rest = drop (suc at) text; well_formed = subst WellFormed (sym (take-append-drop (suc at) text)) w });
        within = omega arith;
        viable = viable_run (take at text) s read;
        first = λ _ v. never v;
      }

  ended_early : length text ≤ at → (s ≡ Between → ⊥) → Misplaced text (length text)
  ended_early past unended =
      let whole = run_all past in
      let all = take_all (length text) text (omega arith) in
      record {
        ill_formed = λ w. let e = ended_well_formed text w in let same : s ≡ Between = cc in unended same;
        within = omega arith;
        viable = viable_run (take (length text) text) s (ap (run (Some Between)) all ∙ whole);
        first = λ lt v. absurd (omega arith);
      }

  pub sofar : Sofar text at s
  sofar = record { read = read; stops = stopped; ends_well = λ past e. well_formed_ended text (run_all past ∙ ap Some e); ends_early = ended_early }

pub sofar_none : (text : List ℕ) → Sofar text 0 Between
sofar_none text = sofar text 0 Between refl

pub sofar_more : (text : List ℕ) (at : ℕ) (s later : Stage) → at < length text → Sofar text at s → Some later ≡ next s (get_or text at 0) → Sofar text (at + 1) later
sofar_more text at s later within r is = sofar text (at + 1) later (run_more text at s r.read within ∙ sym is)
