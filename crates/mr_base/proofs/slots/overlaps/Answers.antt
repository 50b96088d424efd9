use Rattle.mr_model.proofs.SlotTests.{overlaps-true, overlaps_from}
use Rattle.mr_base.proofs.slots.overlaps.Goals as goal

pub returns-clause-meaning : goal.returns-clause-meaning
returns-clause-meaning c = rw c.is_later_start_before_earlier_end.ensures (overlaps-true _ _ _ _, overlaps_from _ _ _ _)
