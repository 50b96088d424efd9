use Rattle.std.proofs.Common.{ℕ}
use Rattle.mr_model.specs.Replies.{CommittedIs}
use Rattle.mr_model.specs.Scopes.{NextCommits}
use Rattle.mr_model.specs.Step.{commit}
use Rattle.mr_replica.proofs.Steps.{commit_step}
use Rattle.mr_replica.proofs.Taken.{turned, unmade}
use Rattle.mr_tables.specs.Change.{ChangeView}
use Rattle.mr_replica.proofs.desk.Desk.commit.Goals as goal

pub returns-in-Ok-clause-step : goal.returns-in-Ok-clause-step
returns-in-Ok-clause-step c =
    turned (NextCommits c.args.k) (λ a. commit a c.args.k) (λ _ (done : ℕ × ChangeView). CommittedIs done.0)
    (λ (done : ℕ × ChangeView). done.1) c.in-Ok.part c.args.self.now c.changed_by.new.self c.commit.result c.changed_by.result
    (commit_step c.args.k) c.in-Ok.ensures.part c.commit.ensures.step c.changed_by.ensures.made c.changed_by.ensures.err c.changed_by.ensures.only

pub returns-in-Err-clause-step : goal.returns-in-Err-clause-step
returns-in-Err-clause-step c =
    unmade (λ a. commit a c.args.k) (λ _ (done : ℕ × ChangeView). CommittedIs done.0) c.args.self.now c.args.self.now c.in-Err.refusal (λ _. c.args.self.now) (λ a h. c.in-Err.ensures.only a h)

pub returns-in-Ok-clause-own : goal.returns-in-Ok-clause-own
returns-in-Ok-clause-own c = λ a h. c.changed_by.ensures.own c.commit.ensures.own
