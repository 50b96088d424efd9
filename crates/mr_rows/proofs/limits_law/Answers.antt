use Rattle.std.proofs.Common.{sym, subst}
use Rattle.mr_rows.specs.TableLimits.{AreWithinLimits}
use Rattle.mr_rows.proofs.LimitsKept.{limits_kept}
use Rattle.mr_rows.proofs.limits_law.Goals as goal

pub returns : goal.returns
returns c = λ t r stands. subst AreWithinLimits (sym stands.are) (limits_kept r stands.sound)
