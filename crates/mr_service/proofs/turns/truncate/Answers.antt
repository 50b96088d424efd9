use Rattle.std.proofs.Common.{refl}
use Rattle.std.proofs.lemmas.Result.{err_from_is_err_and}
use Rattle.mr_model.specs.Scopes.{UpTo}
use Rattle.mr_model.specs.Step.{truncate}
use Rattle.mr_model.specs.Replies.{DroppedIs}
use Rattle.mr_service.proofs.KeeperChanges.{answers, refuses}
use Rattle.mr_service.proofs.turns.truncate.Goals as goal

pub returns-in_err-number : goal.returns-in_err-number
returns-in_err-number c =
    let p = err_from_is_err_and c.from_residual.result c.from_residual.ensures.1 in
    rw (p.1, p.2) (refuses (UpTo c.args.number) (λ a. truncate a c.args.number) (λ _ done. DroppedIs done.0)
    (λ done. done.1) c.in_err-number.field-0.0 c.args.part.now c.in_err-number.ensures.step c.in_err-number.ensures.own)

pub returns : goal.returns
returns c =
    answers (UpTo c.args.number) (λ a. truncate a c.args.number) (λ _ done. DroppedIs done.0) (λ done. done.1)
    (c.in_ok-number.number, c.in_ok-number.change) c.args.part.now _ c.in_ok-number.ensures.step (λ a sound from. refl) (λ e is. cc is)
