use Rattle.std.proofs.Common.{◌≡◌, refl, ◌∙◌, subst, Some}
use Rattle.std.proofs.lemmas.Result.{err_from_is_err_and}
use Rattle.mr_model.specs.Step.{Ask}
use Rattle.mr_model.specs.View.{AskSheet}
use Rattle.mr_store.specs.Picked.{AreBookings}
use Rattle.mr_service.proofs.KeeperReads.{read_ok, read_then, read_next, fails_all, refused_by, answered_by, unread}
use Rattle.mr_service.proofs.RoomSteps as steps
use Rattle.mr_service.proofs.questions.sheet.Goals as goal

pub returns-in_err-day : goal.returns-in_err-day
returns-in_err-day g c =
    let p = err_from_is_err_and c.from_residual.result c.from_residual.ensures.1 in
    record {
      served = rw (p.1, p.2) (unread g.K.Keeper c.args.keeper.now (Ask c.args.room.now (AskSheet c.args.day.now)) c.in_err-day.field-0.0 (λ t.
          steps.day_refused t c.args.room.now c.args.day.now c.in_err-day.field-0.0 c.in_err-day.ensures.value) (steps.day_not_store c.args.day.now c.in_err-day.field-0.0 c.in_err-day.ensures.value));
    }

pub returns-in_err-room : goal.returns-in_err-room
returns-in_err-room g c =
    let p = err_from_is_err_and c.from_residual-in_err-room.result c.from_residual-in_err-room.ensures.1 in
    record {
      served = rw (p.1, p.2) (refused_by g.K.Keeper c.args.keeper.now c.known_room.new.keeper c.in_err-room.field-0.0 (Ask c.args.room.now (AskSheet c.args.day.now)) c.in_err-room.ensures.read
          (λ u. steps.refused_anywhere (Ask c.args.room.now (AskSheet c.args.day.now)) c.args.room.now c.in_err-room.field-0.0
          (λ t finds. steps.sheet_refused t t c.args.room.now c.args.day.now c.in_ok-day.day c.in_err-room.field-0.0 c.in_ok-day.ensures.value refl finds) (c.in_err-room.ensures.refuses u))
          (λ u o. steps.sheet_refused (g.K.Keeper.tables c.args.keeper.now) (g.K.Keeper.tables c.known_room.new.keeper) c.args.room.now c.args.day.now c.in_ok-day.day
          c.in_err-room.field-0.0 c.in_ok-day.ensures.value (c.known_room.ensures.read.same u o) (c.in_err-room.ensures.finds u (c.known_room.ensures.read.opens u o))));
    }

pub returns-in_err-rows : goal.returns-in_err-rows
returns-in_err-rows g c =
    let p = err_from_is_err_and c.from_residual-in_err-rows.result c.from_residual-in_err-rows.ensures.1 in
    record {
      served = rw p.1 (read_then g.K.Keeper c.args.keeper.now c.known_room.new.keeper c.bookings.new.self c.in_ok-room.room (Ask c.args.room.now (AskSheet c.args.day.now)) _ c.in_ok-room.ensures.read
          (fails_all g.K.Keeper c.known_room.new.keeper c.bookings.new.self c.in_err-rows.field-0.0 p.0 p.2 c.in_err-rows.ensures.quiet (Ask c.args.room.now (AskSheet c.args.day.now))));
    }

pub returns : goal.returns
returns g c =
    let same : g.K.Keeper.is_clean c.bookings.new.self → g.K.Keeper.is_open c.bookings.new.self → g.K.Keeper.tables c.known_room.new.keeper
    ≡ g.K.Keeper.tables c.args.keeper.now = λ u o. c.known_room.ensures.read.same (c.bookings.ensures.quiet.clean u) (c.bookings.ensures.quiet.opens u o) in
    record {
      served = answered_by g.K.Keeper c.args.keeper.now c.bookings.new.self c.in_ok-rows.rows.items (Ask c.args.room.now (AskSheet c.args.day.now)) _
          (read_next g.K.Keeper c.args.keeper.now c.known_room.new.keeper c.bookings.new.self c.in_ok-room.room _ c.in_ok-room.ensures.read
          (read_ok g.K.Keeper c.known_room.new.keeper c.bookings.new.self c.in_ok-rows.rows.items _ c.in_ok-rows.ensures.quiet))
          (λ u o. steps.sheet_step (g.K.Keeper.tables c.args.keeper.now)
          (g.K.Keeper.tables c.bookings.new.self) c.args.room.now c.in_ok-room.room c.args.day.now c.in_ok-day.day c.in_ok-rows.rows.items c.in_ok-day.ensures.value
          (c.bookings.ensures.quiet.same u o ∙ same u o)
          (c.in_ok-room.ensures.finds (c.bookings.ensures.quiet.clean u) (c.known_room.ensures.read.opens (c.bookings.ensures.quiet.clean u) (c.bookings.ensures.quiet.opens u o)))
          (subst (λ t. AreBookings c.in_ok-room.room (Some c.in_ok-day.day) t c.in_ok-rows.rows.items) (same u o) (c.in_ok-rows.ensures.bookings u (c.bookings.ensures.quiet.opens u o))))
          (λ told. cc told);
    }
