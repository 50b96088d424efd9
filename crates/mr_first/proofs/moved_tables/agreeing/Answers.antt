use Rattle.std.proofs.Common.{refl}
use Rattle.mr_first.proofs.moved_tables.agreeing.Goals as goal

pub returns-in-Ok-false-clause-agree : goal.returns-in-Ok-false-clause-agree
returns-in-Ok-false-clause-agree c = tt

-- (out of memory)
pub returns-in-Err-clause-refused : goal.returns-in-Err-clause-refused
returns-in-Err-clause-refused c = λ other. absurd (other refl)
