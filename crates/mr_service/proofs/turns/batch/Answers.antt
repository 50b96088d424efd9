use Rattle.std.proofs.lemmas.Result.{err_from_is_err_and}
use Rattle.mr_model.specs.Replies.{BatchIs}
use Rattle.mr_model.specs.Scopes.{Above}
use Rattle.mr_model.specs.Step.{batch_reply}
use Rattle.mr_service.proofs.KeeperChanges.{tells, tells_not}
use Rattle.mr_service.proofs.turns.batch.Goals as goal

pub returns-in_err-batch : goal.returns-in_err-batch
returns-in_err-batch c = λ within.
    let p = err_from_is_err_and c.from_residual.result c.from_residual.ensures.1 in
    rw (p.1, p.2) (tells_not (Above c.args.position.now.commits) (λ a. batch_reply a c.args.position.now c.args.max_lines)
    (λ x. BatchIs x) c.in_err-batch.field-0.0 c.args.part.now c.in_err-batch.ensures.step (c.in_err-batch.ensures.own within))

pub returns : goal.returns
returns c = λ within. tells (Above c.args.position.now.commits) (λ a. batch_reply a c.args.position.now c.args.max_lines)
    (λ x. BatchIs x) c.in_ok-batch.field-0 c.args.part.now c.in_ok-batch.ensures.step (λ e is. cc is)
