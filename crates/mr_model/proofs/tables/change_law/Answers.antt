use Rattle.std.proofs.Common.{◌≡◌, ap, ◌+◌, arith}
use Rattle.mr_model.specs.Writes.{Stamp}
use Rattle.mr_model.specs.Replica.{clock_of}
use Rattle.mr_model.proofs.CommitsKeep.{keeps-commit}
use Rattle.mr_model.proofs.Orders.{is_next, write_inserted, commit_moved, commit_fates}
use Rattle.mr_model.proofs.SubmitRows.{submit_changes}
use Rattle.mr_model.proofs.CommitRows.{commit_changes}
use Rattle.mr_model.proofs.TruncateRows.{truncate_changes}
use Rattle.mr_model.proofs.tables.change_law.Goals as goal

pub returns-clause-submit : goal.returns-clause-submit
returns-clause-submit c r w h ok e known =
    let t : w.stamp.time ≡ clock_of r + 1 = ap (λ (x : Stamp). x.time) e in
    submit_changes r w h (is_next r w ok e) (omega (arith, t)) known

pub returns-clause-commit : goal.returns-clause-commit
returns-clause-commit c r k h = commit_changes r k h (keeps-commit r k h)

pub returns-clause-fates : goal.returns-clause-fates
returns-clause-fates c = commit_fates

pub returns-clause-truncate : goal.returns-clause-truncate
returns-clause-truncate c = truncate_changes

pub returns-clause-write : goal.returns-clause-write
returns-clause-write c = write_inserted

pub returns-clause-commit_one : goal.returns-clause-commit_one
returns-clause-commit_one c = commit_moved
