use Rattle.std.proofs.Common.{◌≡◌, ◌||◌, drop}
use Rattle.mr_model.specs.Writes.{Id}
use Rattle.mr_part.specs.Sets.{has_id}
use Rattle.mr_service.specs.Questions.{has_tentative}
use Rattle.mr_service.proofs.calendars.tentative_cancels.Given as goal

-- with those of the rows that are left, the ids are those of all
abbrev pub invariant-loop-row : goal.invariant-loop-row
invariant-loop-row l = (id : Id) → (has_id l.ids id || has_tentative id (drop l.row-index l.cancels)) ≡ has_tentative id l.cancels
