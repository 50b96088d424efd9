use Rattle.std.proofs.Common.{◌≡◌, drop}
use Rattle.mr_tables.specs.Change.{put_all}
use Rattle.mr_replica.proofs.puts.with_rows.Given as goal

-- with those that are left the rows come to what all of them make
abbrev pub invariant-loop-row : goal.invariant-loop-row
invariant-loop-row g l =
    put_all g.R.TableRow.before g.R.TableRow.key (drop l.row-index l.news) l.after.items ≡ put_all g.R.TableRow.before g.R.TableRow.key l.news l.rows
