use Rattle.std.proofs.Common.{◌∙◌, sym, ap}
use Rattle.std.specs.Option.{option_copied}
use Rattle.mr_part.specs.KeptRows.{run_place}
use Rattle.mr_replica.proofs.SharedLogs.{behind_last}
use Rattle.mr_replica.proofs.shared_log.is_behind.Goals as goal

pub returns-in-Some : goal.returns-in-Some
returns-in-Some c = λ order yes.
    behind_last c.args.rows.now c.in-Some.last.now (run_place c.args.row.now) order (sym c.last.ensures.value ∙ ap option_copied c.in-Some.is) (sym c.runs_before.ensures ∙ yes)
