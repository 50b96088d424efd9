use Rattle.std.proofs.Common.{not, ap, ◌∙◌}
use Rattle.mr_replay.specs.Hidden.{shown}
use Rattle.mr_replay.proofs.Checking.{free-bookings}
use Rattle.mr_replay.proofs.taken.is_free.Goals as goal

pub returns : goal.returns
returns c = ap not c.is_taken.ensures ∙ free-bookings c.args.room.now c.args.slot c.args.length (shown c.args.hidden.now c.args.rows.now.entries)
