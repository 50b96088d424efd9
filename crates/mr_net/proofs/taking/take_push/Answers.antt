use Rattle.std.proofs.Common.{refl, ap, Ok, Err}
use Rattle.mr_net.proofs.taking.take_push.Goals as goal

pub returns-in-Ok : goal.returns-in-Ok
returns-in-Ok g c = (Ok c.in-Ok.counts, c.in-Ok.ensures.tells, ap Ok c.of.ensures)

pub returns-in-Err : goal.returns-in-Err
returns-in-Err g c = (Err c.in-Err.fault, c.in-Err.ensures.tells, refl)
