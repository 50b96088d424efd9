use Rattle.std.proofs.Common.{◌∙◌, sym}
use Rattle.std.proofs.lemmas.Result.{err_from_is_err_and}
use Rattle.mr_model.specs.Scopes.{InRoom}
use Rattle.mr_part.specs.Steps.{submit_request, outcome_in}
use Rattle.mr_service.proofs.KeeperChanges.{answers, refuses}
use Rattle.mr_service.proofs.turns.submit.Goals as goal

pub returns-in_err-change : goal.returns-in_err-change
returns-in_err-change c =
    let p = err_from_is_err_and c.from_residual.result c.from_residual.ensures.1 in
    rw (p.1, p.2) (refuses (InRoom c.args.request.room) (submit_request c.args.request) (λ a done. outcome_in c.args.request a done.0)
    (λ done. done.1) c.in_err-change.field-0.0 c.args.part c.in_err-change.ensures.step c.in_err-change.ensures.own)

pub returns-in-Some : goal.returns-in-Some
returns-in-Some c =
    answers (InRoom c.args.request.room) (submit_request c.args.request) (λ a done. outcome_in c.args.request a done.0) (λ done. done.1) (c.in_ok-change.field-0-0, c.in_ok-change.change) c.args.part _
    c.in_ok-change.ensures.step (λ a sound from. c.in-Some.ensures ∙ sym (c.in_ok-change.ensures.told a sound from)) (λ e is. cc is)
