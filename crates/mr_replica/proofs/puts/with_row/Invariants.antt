use Rattle.std.proofs.Common.{◌≡◌, ◌++◌, drop}
use Rattle.mr_tables.specs.Change.{put}
use Rattle.mr_replica.proofs.puts.with_row.Given as goal

-- behind the rows so far the row is put among those that are left
abbrev pub invariant-loop-k : goal.invariant-loop-k
invariant-loop-k g l =
    l.front.items ++ put g.R.TableRow.before g.R.TableRow.key l.row (drop l.k l.rows) ≡ put g.R.TableRow.before g.R.TableRow.key l.row l.rows
