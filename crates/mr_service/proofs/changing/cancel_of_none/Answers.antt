use Rattle.std.proofs.Common.{refl}
use Rattle.std.proofs.lemmas.Result.{err_from_is_err_and}
use Rattle.mr_model.specs.Step.{Cancel}
use Rattle.mr_service.proofs.KeeperReads.{refused_by, answered_by}
use Rattle.mr_service.proofs.RoomSteps as steps
use Rattle.mr_service.proofs.changing.cancel_of_none.Goals as goal

pub returns-in_err-known_room : goal.returns-in_err-known_room
returns-in_err-known_room g c =
    let p = err_from_is_err_and c.from_residual.result c.from_residual.ensures.1 in
    record {
      served = rw (p.1, p.2) (refused_by g.K.Keeper c.args.keeper.now c.known_room.new.keeper c.in_err-known_room.field-0.0 (Cancel c.args.room.now c.args.id.now) c.in_err-known_room.ensures.read
          (λ u. steps.refused_anywhere (Cancel c.args.room.now c.args.id.now) c.args.room.now c.in_err-known_room.field-0.0
          (λ t finds. steps.no_cancel_refused t t c.args.room.now c.args.id.now c.args.refusal c.in_err-known_room.field-0.0 c.requires refl finds) (c.in_err-known_room.ensures.refuses u))
          (λ u o. steps.no_cancel_refused (g.K.Keeper.tables c.args.keeper.now) (g.K.Keeper.tables c.known_room.new.keeper) c.args.room.now c.args.id.now c.args.refusal
          c.in_err-known_room.field-0.0 c.requires (c.known_room.ensures.read.same u o) (c.in_err-known_room.ensures.finds u (c.known_room.ensures.read.opens u o))));
    }

pub returns : goal.returns
returns g c =
    record {
      served = answered_by g.K.Keeper c.args.keeper.now c.known_room.new.keeper c.in_ok-known_room.field-0 (Cancel c.args.room.now c.args.id.now) _ c.in_ok-known_room.ensures.read
          (λ u o. steps.no_cancel_step (g.K.Keeper.tables c.args.keeper.now) (g.K.Keeper.tables c.known_room.new.keeper) c.args.room.now c.in_ok-known_room.field-0
          c.args.id.now c.args.refusal c.requires (c.known_room.ensures.read.same u o) (c.in_ok-known_room.ensures.finds u (c.known_room.ensures.read.opens u o)))
          (steps.id_not_store c.args.id.now c.args.refusal c.requires);
    }
