use Rattle.std.proofs.Common.{refl}
use Rattle.std.proofs.lemmas.Result.{err_from_is_err_and}
use Rattle.mr_model.specs.Scopes.{OfItems}
use Rattle.mr_model.specs.Step.{receive_batch}
use Rattle.mr_model.specs.Replies.{Took}
use Rattle.mr_service.proofs.KeeperChanges.{answers, refuses}
use Rattle.mr_service.proofs.turns.receive.Goals as goal

pub returns-in_err-writes : goal.returns-in_err-writes
returns-in_err-writes c =
    let p = err_from_is_err_and c.from_residual.result c.from_residual.ensures.1 in
    rw (p.1, p.2) (refuses (OfItems c.args.batch.now.items) (λ a. receive_batch a c.args.batch.now) (λ _ taken. Took taken.0 taken.1)
    (λ taken. taken.2) c.in_err-writes.field-0.0 c.args.part c.in_err-writes.ensures.step c.in_err-writes.ensures.own)

pub returns : goal.returns
returns c =
    answers (OfItems c.args.batch.now.items) (λ a. receive_batch a c.args.batch.now) (λ _ taken. Took taken.0 taken.1) (λ taken. taken.2)
    (c.in_ok-writes.writes, c.in_ok-writes.commits, c.in_ok-writes.change) c.args.part _ c.in_ok-writes.ensures.step (λ a sound from. refl) (λ e is. cc is)
