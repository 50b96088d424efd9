use Rattle.mr_first.proofs.FirstLimits.{can_move}
use Rattle.mr_first.proofs.moved_tables.moving_law.Goals as goal

pub returns : goal.returns
returns c = can_move
