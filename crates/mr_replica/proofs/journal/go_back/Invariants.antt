use Rattle.std.proofs.Common.{List, length, reverse}
use Rattle.mr_replica.specs.Journal.{AreSteps}
use Rattle.mr_replica.specs.RowKeys.{IsRowNoted}
use Rattle.mr_replica.proofs.journal.go_back.Given as goal

-- the steps that are left lead to what is there now
abbrev pub invariant-loop-id : goal.invariant-loop-id
invariant-loop-id g l =
    (before : List g.row.R.Denot) → AreSteps g.R.IdRow.id (IsRowNoted g.R.KeyedRow.second_key l.fn.table.keys) (reverse l.fn.puts.items) before l.fn.table.rows
    → AreSteps g.R.IdRow.id (IsRowNoted g.R.KeyedRow.second_key l.table.keys) (reverse l.left.items) before l.table.rows

abbrev pub decreases-loop-id : goal.decreases-loop-id
decreases-loop-id g l = length l.left.items
