use Rattle.std.proofs.Common.{◌≡◌, take, map}
use Rattle.mr_model.specs.Replica.{Replica, IsReplica}
use Rattle.mr_model.specs.Tables.{kept, log_row}
use Rattle.mr_part.specs.KeptRows.{kept_row}
use Rattle.mr_part.specs.WithoutChoices.{without_choices, kept_without_choices}
use Rattle.mr_part.proofs.kept_rows.kept_rows.Given as goal

-- the rows so far are read
abbrev pub invariant-loop-log : goal.invariant-loop-log
invariant-loop-log l =
    ((a : Replica) → IsReplica a → l.logs ≡ map (log_row a) (kept a) → l.rows.items ≡ map (kept_row a) (take l.log-index (kept a)))
    × (map kept_without_choices l.rows.items ≡ map without_choices (take l.log-index l.logs))
