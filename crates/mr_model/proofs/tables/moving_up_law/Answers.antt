use Rattle.mr_model.proofs.MovingUp.{moves_up, have_places}
use Rattle.mr_model.proofs.tables.moving_up_law.Goals as goal

pub returns-clause-moved : goal.returns-clause-moved
returns-clause-moved c = moves_up

pub returns-clause-places : goal.returns-clause-places
returns-clause-places c = have_places
