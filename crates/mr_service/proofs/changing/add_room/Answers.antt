use Rattle.std.proofs.lemmas.Result.{err_from_is_err_and}
use Rattle.mr_model.specs.Scopes.{Nothing}
use Rattle.mr_model.specs.Step.{AddRoom, add_room}
use Rattle.mr_model.specs.Writes.{is_room_name}
use Rattle.mr_service.proofs.KeeperChanges.{not_loaded, made_by}
use Rattle.mr_service.proofs.KeeperReads.{unread}
use Rattle.mr_service.proofs.DeskSteps.{word_step}
use Rattle.mr_service.proofs.CommandWords as words
use Rattle.mr_service.proofs.changing.add_room.Goals as goal

pub returns-in_err-room : goal.returns-in_err-room
returns-in_err-room g c =
    let p = err_from_is_err_and c.from_residual.result c.from_residual.ensures.1 in
    record {
      served = rw (p.1, p.2) (unread g.K.Keeper c.args.keeper.now (AddRoom c.args.room.now) c.in_err-room.field-0.0
          (λ t. word_step t (AddRoom c.args.room.now) c.in_err-room.field-0.0 (words.room_refused c.args.room.now c.in_err-room.field-0.0 c.in_err-room.ensures.value))
          (words.room_not_store (is_room_name c.args.room.now) c.args.room.now c.in_err-room.field-0.0 c.in_err-room.ensures.value));
    }

pub returns-in_err-part : goal.returns-in_err-part
returns-in_err-part g c =
    let p = err_from_is_err_and c.from_residual-in_err-part.result c.from_residual-in_err-part.ensures.1 in
    record { served = rw (p.1, p.2) (not_loaded g.K.Keeper c.args.keeper.now c.load.new.keeper Nothing c.in_err-part.field-0.0 (AddRoom c.args.room.now) c.in_err-part.ensures) }

pub returns : goal.returns
returns g c =
    record {
      served = made_by g.K.Keeper c.args.keeper.now c.load.new.keeper c.change.new.keeper Nothing c.in_ok-part.part _ _ (AddRoom c.args.room.now)
          (λ a. add_room a c.in_ok-room.room) c.in_ok-part.ensures c.change.ensures (words.room_named c.args.room.now c.in_ok-room.room c.in_ok-room.ensures.value) c.add_room.ensures;
    }
