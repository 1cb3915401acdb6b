use Rattle.std.proofs.Common.{◌≡◌, rules}
use Rattle.std.specs.Result.{result_from_control_flow, IsErr, IsErrAnd}
use Rattle.written.proofs.FormRead.{told}
use Rattle.written.proofs.form.misplaced.Goals as goal

pub returns-in-Ok-Between : goal.returns-in-Ok-Between
returns-in-Ok-Between c =
    let all = told _ (λ v o. v ≡ result_from_control_flow o) (λ e r. IsErr r × IsErrAnd r (λ x. x ≡ e.0)) (λ p a x r q k. search rules) (λ r a k. k) (λ v r e k l. search (rules, k, l)) c.args.text.now c.enumerate.result _ _ c.try_fold-read.result (search rules) (search rules) c.try_fold-read.ensures.ran in
    search (rules, all)

pub returns-in-Ok : goal.returns-in-Ok
returns-in-Ok c =
    let all = told _ (λ v o. v ≡ result_from_control_flow o) (λ e r. IsErr r × IsErrAnd r (λ x. x ≡ e.0)) (λ p a x r q k. search rules) (λ r a k. k) (λ v r e k l. search (rules, k, l)) c.args.text.now c.enumerate.result _ _ c.try_fold-read.result (search rules) (search rules) c.try_fold-read.ensures.ran in
    search (rules, all)

pub returns-in-Err : goal.returns-in-Err
returns-in-Err c =
    let all = told _ (λ v o. v ≡ result_from_control_flow o) (λ e r. IsErr r × IsErrAnd r (λ x. x ≡ e.0)) (λ p a x r q k. search rules) (λ r a k. k) (λ v r e k l. search (rules, k, l)) c.args.text.now c.enumerate.result _ _ c.try_fold-read.result (search rules) (search rules) c.try_fold-read.ensures.ran in
    search (rules, all)
