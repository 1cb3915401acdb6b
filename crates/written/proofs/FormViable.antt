-- Which bytes begin a well-formed text: those that are read without a fault.
use Rattle.std.proofs.Common.{◌≡◌, ℕ, zero, suc, ltb, List, [], ◌∷◌, ◌++◌, Some, None, sym, refl, ap, ◌∙◌, subst, arith}
use Rattle.std.proofs.lemmas.Bool.{cond-true, lt-ltb}
use Rattle.written.specs.Form.{WellFormed, Viable}
use Rattle.written.specs.Stages.{run}
use Rattle.written.specs.Tokens.{tokens}
use Rattle.written.specs.declared.form.Stage.{Stage}
use Rattle.written.specs.declared.form.Stage.TheVariants.{Between, Head, Headed, Body, Name, Word}
use Rattle.written.proofs.ExpectedTokens.{Expects, statements_told, statements_expected}
use Rattle.written.proofs.FormRuns.{Ended, run_append, none_ended}
use Rattle.written.proofs.FormComplete.{complete}
use Rattle.written.proofs.FormSound.{sound}

pub well_formed_ended : (text : List ℕ) → Ended (Some Between) text → WellFormed text
well_formed_ended text h =
    let r = sound text h in
    let told = statements_told (tokens r.placed) r.expects in
    record { placed = r.placed; statements = told.0; written = record { laid = r.laid; tokens_are = told.1 } }

pub ended_well_formed : (text : List ℕ) → WellFormed text → Ended (Some Between) text
ended_well_formed text w = complete w.written.laid Between (subst (Expects Between) (sym w.written.tokens_are) (statements_expected w.statements))

-- Bytes that end the sheet from a stage.
completion : Stage → List ℕ
completion Between = []
completion (Head n) = 58 ∷ 59 ∷ []
completion Headed = 58 ∷ 59 ∷ []
completion Body = 59 ∷ []
completion (Name n) = 59 ∷ []
completion (Word zero) = 97 ∷ 34 ∷ 59 ∷ []
completion (Word (suc n)) = 34 ∷ 59 ∷ []

completed : (s : Stage) → Ended (Some s) (completion s)
unfolding completion
completed Between = refl
completed (Head n) = refl
completed Headed = refl
completed Body = refl
completed (Name n) = refl
completed (Word zero) = refl
completed (Word (suc n)) = ap (λ o. run o (59 ∷ [])) (cond-true (ltb 0 (suc n)) (Some Body) None (lt-ltb 0 (suc n) (omega arith)))

pub viable_run : (bs : List ℕ) (s : Stage) → run (Some Between) bs ≡ Some s → Viable bs
viable_run bs s h =
    let more = completion s in
    record { rest = more; well_formed = well_formed_ended (bs ++ more) (run_append (Some Between) bs more ∙ ap (λ o. run o more) h ∙ completed s) }

-- Nothing well formed begins with bytes that are not read.
pub fault_not_viable : (bs : List ℕ) → run (Some Between) bs ≡ None → Viable bs → ⊥
fault_not_viable bs h v =
    none_ended v.rest (ap (λ o. run o v.rest) (sym h) ∙ sym (run_append (Some Between) bs v.rest) ∙ ended_well_formed (bs ++ v.rest) v.well_formed)
