use Rattle.std.proofs.Common.{◌∙◌, sym}
use Rattle.std.proofs.lemmas.Result.{err_from_is_err_and}
use Rattle.mr_model.specs.Scopes.{OfTarget}
use Rattle.mr_part.specs.Steps.{cancel_request, outcome_at_room}
use Rattle.mr_service.proofs.KeeperChanges.{answers, refuses}
use Rattle.mr_service.proofs.turns.cancel.Goals as goal

pub returns-in_err-change : goal.returns-in_err-change
returns-in_err-change c =
    let p = err_from_is_err_and c.from_residual.result c.from_residual.ensures.1 in
    rw (p.1, p.2) (refuses (OfTarget c.args.target) (cancel_request c.args.room c.args.target) (λ a done. outcome_at_room c.args.room a done.0)
    (λ done. done.1) c.in_err-change.field-0.0 c.args.part.now c.in_err-change.ensures.step c.in_err-change.ensures.own)

pub returns-in-Some : goal.returns-in-Some
returns-in-Some c =
    answers (OfTarget c.args.target) (cancel_request c.args.room c.args.target) (λ a done. outcome_at_room c.args.room a done.0)
    (λ done. done.1) (c.in_ok-change.field-0-0, c.in_ok-change.change) c.args.part.now _
    c.in_ok-change.ensures.step (λ a sound from. c.in-Some.ensures ∙ sym (c.in_ok-change.ensures.told a sound from)) (λ e is. cc is)
