use Rattle.std.proofs.Common.{rules}
use Rattle.std.proofs.lemmas.List.Sorted.{answers_always}
use Rattle.mr_part.specs.KeptRows.{run_place}
use Rattle.mr_tables.proofs.Rising.{rise_from}
use Rattle.mr_replica.specs.SharedLog.{run_before}
use Rattle.mr_replica.proofs.SharedLogs.{rise_run}
use Rattle.mr_replica.proofs.shared_log.are_in_run_order.Goals as goal

pub returns : goal.returns
returns c = λ yes.
    let rows = c.args.rows.now in
    let rise = rise_from run_before run_place rows c.is_sorted_by.result
    (c.is_sorted_by.ensures.cases (λ x y. run_before (run_place x) (run_place y)) (answers_always _ _ _ (λ f a r f' k. search rules))) in
    rise_run rows (rise.0 yes)
