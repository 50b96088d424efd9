use Rattle.std.proofs.Common.{refl}
use Rattle.std.proofs.lemmas.Result.{err_from_is_err_and}
use Rattle.mr_model.specs.Scopes.{NextCommits}
use Rattle.mr_model.specs.Step.{commit}
use Rattle.mr_model.specs.Replies.{CommittedIs}
use Rattle.mr_service.proofs.KeeperChanges.{answers, refuses}
use Rattle.mr_service.proofs.turns.commit.Goals as goal

pub returns-in_err-count : goal.returns-in_err-count
returns-in_err-count c =
    let p = err_from_is_err_and c.from_residual.result c.from_residual.ensures.1 in
    rw (p.1, p.2) (refuses (NextCommits c.args.k) (λ a. commit a c.args.k) (λ _ done. CommittedIs done.0)
    (λ done. done.1) c.in_err-count.field-0.0 c.args.part.now c.in_err-count.ensures.step c.in_err-count.ensures.own)

pub returns : goal.returns
returns c =
    answers (NextCommits c.args.k) (λ a. commit a c.args.k) (λ _ done. CommittedIs done.0) (λ done. done.1)
    (c.in_ok-count.count, c.in_ok-count.change) c.args.part.now _ c.in_ok-count.ensures.step (λ a sound from. refl) (λ e is. cc is)
