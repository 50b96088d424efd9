use Rattle.std.proofs.Common.{refl}
use Rattle.std.proofs.lemmas.Result.{err_from_is_err_and}
use Rattle.mr_model.specs.Positions.{position_of}
use Rattle.mr_model.specs.Replies.{PositionIs}
use Rattle.mr_model.specs.Scopes.{Nothing}
use Rattle.mr_model.specs.Step.{AskPosition, leave}
use Rattle.mr_service.proofs.KeeperChanges.{not_loaded, told_by}
use Rattle.mr_service.proofs.changing.position.Goals as goal

pub returns-in_err-part : goal.returns-in_err-part
returns-in_err-part g c =
    let p = err_from_is_err_and c.from_residual.result c.from_residual.ensures.1 in
    record { served = rw (p.1, p.2) (not_loaded g.K.Keeper c.args.keeper.now c.load.new.keeper Nothing c.in_err-part.field-0.0 AskPosition c.in_err-part.ensures) }

pub returns : goal.returns
returns g c =
    record {
      served = told_by g.K.Keeper c.args.keeper.now c.load.new.keeper Nothing c.in_ok-part.part c.position.result AskPosition
          (λ a. leave a (PositionIs (position_of a))) c.in_ok-part.ensures (λ a. refl) (c.position.ensures c.in_ok-part.ensures.within);
    }
