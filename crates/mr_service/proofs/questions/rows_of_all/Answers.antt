use Rattle.std.proofs.lemmas.Result.{err_from_is_err_and}
use Rattle.mr_service.proofs.KeeperReads.{read_ok, read_err}
use Rattle.mr_service.proofs.RoomSteps as steps
use Rattle.mr_service.proofs.questions.rows_of_all.Goals as goal

pub returns-in_err-rows : goal.returns-in_err-rows
returns-in_err-rows g c =
    let p = err_from_is_err_and c.from_residual.result c.from_residual.ensures.1 in
    rw p.1 (record {
      read = read_err g.K.Keeper c.args.keeper.now c.bookings.new.self c.in_err-rows.field-0.0 p.0 p.2 c.in_err-rows.ensures.quiet;
      shows = λ u o. tt;
      only = steps.of_fault c.in_err-rows.field-0.0 p.0 p.2;
    })

pub returns : goal.returns
returns g c =
    record {
      read = read_ok g.K.Keeper c.args.keeper.now c.bookings.new.self _ _ c.in_ok-rows.ensures.quiet;
      shows = λ u o. steps.all_shown (g.K.Keeper.tables c.args.keeper.now) c.args.room.now c.in_ok-rows.rows.items (c.in_ok-rows.ensures.bookings u o);
      only = tt;
    }
