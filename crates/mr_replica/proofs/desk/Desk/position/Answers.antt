use Rattle.mr_model.specs.Positions.{position_of}
use Rattle.mr_model.specs.Replies.{PositionIs}
use Rattle.mr_model.specs.Scopes.{Nothing}
use Rattle.mr_model.specs.Step.{leave}
use Rattle.mr_replica.proofs.Taken.{answered, unmade}
use Rattle.mr_replica.proofs.desk.Desk.position.Goals as goal

pub returns-in-Ok-clause-step : goal.returns-in-Ok-clause-step
returns-in-Ok-clause-step c = answered (Nothing) (λ a. PositionIs (position_of a)) (PositionIs) c.in-Ok.part c.args.self.now c.position.result c.in-Ok.ensures.part c.position.ensures.step

pub returns-in-Err-clause-step : goal.returns-in-Err-clause-step
returns-in-Err-clause-step c =
    unmade (λ a. leave a (PositionIs (position_of a))) (λ _. PositionIs) c.args.self.now c.args.self.now c.in-Err.refusal (λ _. c.args.self.now) (λ a h. c.in-Err.ensures.only a h)

pub returns-in-Ok-clause-own : goal.returns-in-Ok-clause-own
returns-in-Ok-clause-own c = λ a h. c.position.ensures.own c.in-Ok.ensures.within
