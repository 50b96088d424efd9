use Rattle.std.proofs.Common.{subst}
use Rattle.mr_model.specs.Exchange.{Batch}
use Rattle.mr_model.specs.Positions.{Position}
use Rattle.mr_model.specs.Replies.{BatchIs}
use Rattle.mr_model.specs.Scopes.{Above}
use Rattle.mr_model.specs.Step.{leave, batch_reply}
use Rattle.mr_part.specs.Parts.{IsPartOf}
use Rattle.mr_replica.proofs.Taken.{answered, unmade}
use Rattle.mr_replica.proofs.desk.Desk.batch.Goals as goal

pub returns-in-Ok-clause-step : goal.returns-in-Ok-clause-step
returns-in-Ok-clause-step c =
    answered (Above c.args.position.now.commits) (λ a. batch_reply a c.args.position.now c.args.max_lines) (λ (b : Batch). BatchIs b) c.in-Ok.part c.args.self.now c.batch.result
    (λ a h. subst (λ (p : Position). IsPartOf c.in-Ok.part (Above p.commits) a) c.position.view_is (c.in-Ok.ensures.part a h)) c.batch.ensures.step

pub returns-in-Err-clause-step : goal.returns-in-Err-clause-step
returns-in-Err-clause-step c = unmade (λ a. leave a (batch_reply a c.args.position.now c.args.max_lines))
    (λ _. λ (b : Batch). BatchIs b) c.args.self.now c.args.self.now c.in-Err.refusal (λ _. c.args.self.now) (λ a h. c.in-Err.ensures.only a h)

pub returns-in-Ok-clause-own : goal.returns-in-Ok-clause-own
returns-in-Ok-clause-own c = λ a h. c.batch.ensures.own c.in-Ok.ensures.within
