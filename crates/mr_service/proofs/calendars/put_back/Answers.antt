use Rattle.mr_model.specs.Tables.{as_booked}
use Rattle.mr_service.specs.Questions.{is_back}
use Rattle.mr_service.proofs.LineLists.{picked_more}
use Rattle.mr_service.proofs.calendars.put_back.Goals as goal

pub loop-row-preserved : goal.loop-row-preserved
loop-row-preserved c =
    picked_more as_booked (is_back c.args.tentative.now) c.args.shown.now.items c.loop-row.shown.items
    c.put_if_back.new.shown.items c.loop-row.yielded c.in-Some.row c.loop-row.invariant c.in_ok-put_if_back.ensures.rows
