use Rattle.std.proofs.lemmas.Result.{err_from_is_err_and}
use Rattle.mr_model.specs.Positions.{position_of}
use Rattle.mr_model.specs.Replies.{PositionIs}
use Rattle.mr_model.specs.Scopes.{Nothing}
use Rattle.mr_service.proofs.KeeperChanges.{tells, tells_not}
use Rattle.mr_service.proofs.turns.position.Goals as goal

pub returns-in_err-position : goal.returns-in_err-position
returns-in_err-position c = λ within.
    let p = err_from_is_err_and c.from_residual.result c.from_residual.ensures.1 in
    rw (p.1, p.2) (tells_not Nothing (λ a. PositionIs (position_of a))
    (λ x. PositionIs x) c.in_err-position.field-0.0 c.args.part.now c.in_err-position.ensures.step (c.in_err-position.ensures.own within))

pub returns : goal.returns
returns c = λ within. tells Nothing (λ a. PositionIs (position_of a)) (λ x. PositionIs x) c.in_ok-position.field-0 c.args.part.now c.in_ok-position.ensures.step (λ e is. cc is)
