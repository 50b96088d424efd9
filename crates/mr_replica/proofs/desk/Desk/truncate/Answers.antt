use Rattle.std.proofs.Common.{ℕ}
use Rattle.mr_model.specs.Replies.{DroppedIs}
use Rattle.mr_model.specs.Scopes.{UpTo}
use Rattle.mr_model.specs.Step.{truncate}
use Rattle.mr_replica.proofs.Steps.{truncate_step}
use Rattle.mr_replica.proofs.Taken.{turned, unmade}
use Rattle.mr_tables.specs.Change.{ChangeView}
use Rattle.mr_replica.proofs.desk.Desk.truncate.Goals as goal

pub returns-in-Ok-clause-step : goal.returns-in-Ok-clause-step
returns-in-Ok-clause-step c =
    turned (UpTo c.args.number) (λ a. truncate a c.args.number) (λ _ (done : ℕ × ChangeView). DroppedIs done.0)
    (λ (done : ℕ × ChangeView). done.1) c.in-Ok.part c.args.self.now c.changed_by.new.self c.truncate.result c.changed_by.result
    (truncate_step c.args.number) c.in-Ok.ensures.part c.truncate.ensures.step c.changed_by.ensures.made c.changed_by.ensures.err c.changed_by.ensures.only

pub returns-in-Err-clause-step : goal.returns-in-Err-clause-step
returns-in-Err-clause-step c = unmade (λ a. truncate a c.args.number)
    (λ _ (done : ℕ × ChangeView). DroppedIs done.0) c.args.self.now c.args.self.now c.in-Err.refusal (λ _. c.args.self.now) (λ a h. c.in-Err.ensures.only a h)

pub returns-in-Ok-clause-own : goal.returns-in-Ok-clause-own
returns-in-Ok-clause-own c = λ a h. c.changed_by.ensures.own c.truncate.ensures.own
