use Rattle.std.proofs.Common.{◌≡◌, ◌++◌, map}
use Rattle.std.specs.List.{filter}
use Rattle.mr_model.specs.Tables.{as_booked}
use Rattle.mr_service.specs.Questions.{is_back}
use Rattle.mr_service.proofs.calendars.put_back.Given as goal

-- those of the rows so far are put
abbrev pub invariant-loop-row : goal.invariant-loop-row
invariant-loop-row l = l.shown.items ≡ l.fn.shown.items ++ map as_booked (filter (is_back l.tentative) l.yielded)
