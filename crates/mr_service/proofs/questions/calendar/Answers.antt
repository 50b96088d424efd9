use Rattle.std.proofs.Common.{◌≡◌, refl, ◌∙◌, subst}
use Rattle.std.proofs.lemmas.Result.{err_from_is_err_and}
use Rattle.mr_model.specs.Step.{Ask}
use Rattle.mr_model.specs.View.{AskCalendar}
use Rattle.mr_service.specs.Asked.{part_seen}
use Rattle.mr_service.specs.Questions.{ShowsCalendar}
use Rattle.mr_service.proofs.KeeperReads.{read_then, read_next, failed_by, refused_by, answered_by}
use Rattle.mr_service.proofs.RoomSteps as steps
use Rattle.mr_service.proofs.questions.calendar.Goals as goal

pub returns-in_err-room : goal.returns-in_err-room
returns-in_err-room g c =
    let p = err_from_is_err_and c.from_residual.result c.from_residual.ensures.1 in
    record {
      served =
          rw (p.1, p.2) (refused_by g.K.Keeper c.args.keeper.now c.known_room.new.keeper c.in_err-room.field-0.0 (Ask c.args.room.now (AskCalendar (part_seen c.args.part))) c.in_err-room.ensures.read
          (λ u. steps.refused_anywhere (Ask c.args.room.now (AskCalendar (part_seen c.args.part))) c.args.room.now c.in_err-room.field-0.0
          (λ t finds. steps.calendar_refused t t c.args.room.now (part_seen c.args.part) c.in_err-room.field-0.0 refl finds) (c.in_err-room.ensures.refuses u))
          (λ u o. steps.calendar_refused (g.K.Keeper.tables c.args.keeper.now) (g.K.Keeper.tables c.known_room.new.keeper) c.args.room.now
          (part_seen c.args.part) c.in_err-room.field-0.0 (c.known_room.ensures.read.same u o) (c.in_err-room.ensures.finds u (c.known_room.ensures.read.opens u o))));
    }

pub returns-in_err-rows : goal.returns-in_err-rows
returns-in_err-rows g c =
    let p = err_from_is_err_and c.from_residual-in_err-rows.result c.from_residual-in_err-rows.ensures.1 in
    record {
      served = rw (p.1, p.2) (read_then g.K.Keeper c.args.keeper.now c.known_room.new.keeper c.rows_of_part.new.keeper c.in_ok-room.room
          (Ask c.args.room.now (AskCalendar (part_seen c.args.part))) _ c.in_ok-room.ensures.read (failed_by g.K.Keeper c.known_room.new.keeper c.rows_of_part.new.keeper
          c.in_err-rows.field-0.0 (Ask c.args.room.now (AskCalendar (part_seen c.args.part))) c.in_err-rows.ensures.read c.in_err-rows.ensures.only));
    }

pub returns : goal.returns
returns g c =
    let same : g.K.Keeper.is_clean c.rows_of_part.new.keeper → g.K.Keeper.is_open c.rows_of_part.new.keeper → g.K.Keeper.tables c.known_room.new.keeper
    ≡ g.K.Keeper.tables c.args.keeper.now = λ u o. c.known_room.ensures.read.same (c.rows_of_part.ensures.read.clean u) (c.rows_of_part.ensures.read.opens u o) in
    record {
      served = answered_by g.K.Keeper c.args.keeper.now c.rows_of_part.new.keeper c.in_ok-rows.rows (Ask c.args.room.now (AskCalendar (part_seen c.args.part))) _
          (read_next g.K.Keeper c.args.keeper.now c.known_room.new.keeper c.rows_of_part.new.keeper c.in_ok-room.room _ c.in_ok-room.ensures.read c.in_ok-rows.ensures.read)
          (λ u o. steps.calendar_step (g.K.Keeper.tables c.args.keeper.now)
          (g.K.Keeper.tables c.rows_of_part.new.keeper) c.args.room.now c.in_ok-room.room (part_seen c.args.part) c.in_ok-rows.rows.items
          (c.rows_of_part.ensures.read.same u o ∙ same u o)
          (c.in_ok-room.ensures.finds (c.rows_of_part.ensures.read.clean u) (c.known_room.ensures.read.opens (c.rows_of_part.ensures.read.clean u) (c.rows_of_part.ensures.read.opens u o)))
          (subst (λ t. ShowsCalendar (part_seen c.args.part) c.in_ok-room.room t c.in_ok-rows.rows.items) (same u o) (c.in_ok-rows.ensures.shows u (c.rows_of_part.ensures.read.opens u o))))
          (λ told. cc told);
    }
