use Rattle.std.proofs.Common.{subst, Ok}
use Rattle.std.proofs.lemmas.Result.{err_from_is_err_and}
use Rattle.mr_model.specs.Requests.{Request}
use Rattle.mr_model.specs.Scopes.{InRoom}
use Rattle.mr_model.specs.Step.{Submit}
use Rattle.mr_part.specs.Steps.{submit_request}
use Rattle.mr_service.specs.Asked.{submission_of}
use Rattle.mr_service.specs.Turns.{IsLoaded}
use Rattle.mr_service.proofs.KeeperChanges.{not_loaded, made_by}
use Rattle.mr_service.proofs.KeeperReads.{unread}
use Rattle.mr_service.proofs.DeskSteps.{word_step}
use Rattle.mr_service.proofs.CommandWords as words
use Rattle.mr_service.proofs.changing.submit.Goals as goal

pub returns-in_err-request-clause-served : goal.returns-in_err-request-clause-served
returns-in_err-request-clause-served g c =
    let p = err_from_is_err_and c.from_residual.result c.from_residual.ensures.1 in
    rw (p.1, p.2) (unread g.K.Keeper c.args.keeper.now (Submit (submission_of c.args.words.now)) c.in_err-request.field-0.0 (λ t. word_step t
    (Submit (submission_of c.args.words.now)) c.in_err-request.field-0.0 (words.submission_refused (submission_of c.args.words.now) c.in_err-request.field-0.0 c.in_err-request.ensures.value))
    (words.submission_not_store (submission_of c.args.words.now) c.in_err-request.field-0.0 c.in_err-request.ensures.value))

pub returns-in_err-part-clause-served : goal.returns-in_err-part-clause-served
returns-in_err-part-clause-served g c =
    let p = err_from_is_err_and c.from_residual-in_err-part.result c.from_residual-in_err-part.ensures.1 in
    rw (p.1, p.2) (not_loaded g.K.Keeper c.args.keeper.now c.load.new.keeper _ c.in_err-part.field-0.0 (Submit (submission_of c.args.words.now)) c.in_err-part.ensures)

pub returns-clause-served : goal.returns-clause-served
returns-clause-served g c =
    made_by g.K.Keeper c.args.keeper.now c.load.new.keeper c.change.new.keeper (InRoom c.in_ok-request.request.room) c.in_ok-part.part _ _
    (Submit (submission_of c.args.words.now)) (submit_request c.in_ok-request.request)
    (subst (λ (q : Request). IsLoaded g.K.Keeper c.args.keeper.now c.load.new.keeper (InRoom q.room) (Ok c.in_ok-part.part)) c.request.view_is c.in_ok-part.ensures) c.change.ensures
    (words.submission_read (submission_of c.args.words.now) c.in_ok-request.request c.in_ok-request.ensures.value) c.submit.ensures
