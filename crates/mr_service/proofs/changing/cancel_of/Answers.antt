use Rattle.std.proofs.lemmas.Result.{err_from_is_err_and}
use Rattle.mr_model.specs.Scopes.{OfTarget}
use Rattle.mr_model.specs.Step.{Cancel}
use Rattle.mr_model.specs.Writes.{is_room_name}
use Rattle.mr_part.specs.Steps.{cancel_request}
use Rattle.mr_service.proofs.KeeperChanges.{not_loaded, made_by}
use Rattle.mr_service.proofs.KeeperReads.{unread}
use Rattle.mr_service.proofs.DeskSteps.{word_step}
use Rattle.mr_service.proofs.CommandWords as words
use Rattle.mr_service.proofs.changing.cancel_of.Goals as goal

pub returns-in_err-room : goal.returns-in_err-room
returns-in_err-room g c =
    let p = err_from_is_err_and c.from_residual.result c.from_residual.ensures.1 in
    record {
      served = rw (p.1, p.2) (unread g.K.Keeper c.args.keeper.now (Cancel c.args.room.now c.args.id.now) c.in_err-room.field-0.0
          (λ t. word_step t (Cancel c.args.room.now c.args.id.now) c.in_err-room.field-0.0 (words.cancel_refused c.args.room.now c.args.id.now c.in_err-room.field-0.0 c.in_err-room.ensures.value))
          (words.room_not_store (is_room_name c.args.room.now) c.args.room.now c.in_err-room.field-0.0 c.in_err-room.ensures.value));
    }

pub returns-in_err-part : goal.returns-in_err-part
returns-in_err-part g c =
    let p = err_from_is_err_and c.from_residual-in_err-part.result c.from_residual-in_err-part.ensures.1 in
    record {
      served = rw (p.1, p.2) (not_loaded g.K.Keeper c.args.keeper.now c.load.new.keeper (OfTarget c.args.target) c.in_err-part.field-0.0 (Cancel c.args.room.now c.args.id.now) c.in_err-part.ensures);
    }

pub returns : goal.returns
returns g c =
    record {
      served = made_by g.K.Keeper c.args.keeper.now c.load.new.keeper c.change.new.keeper (OfTarget c.args.target) c.in_ok-part.part _ _
          (Cancel c.args.room.now c.args.id.now) (cancel_request c.in_ok-room.room c.args.target) c.in_ok-part.ensures c.change.ensures
          (words.cancel_read c.args.room.now c.in_ok-room.room c.args.id.now c.args.target c.in_ok-room.ensures.value c.requires) c.cancel.ensures;
    }
