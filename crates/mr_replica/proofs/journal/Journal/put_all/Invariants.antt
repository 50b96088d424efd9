use Rattle.std.proofs.Common.{◌≡◌, drop, reverse}
use Rattle.mr_tables.specs.Change.{id_before, put_all, rows_without}
use Rattle.mr_replica.specs.Journal.{is_going, rows_but, AreSteps}
use Rattle.mr_replica.specs.RowKeys.{IsRowNoted}
use Rattle.mr_replica.proofs.journal.Journal.put_all.Given as goal

-- with the rows that are left it comes to what all of them make
abbrev pub invariant-loop-row : goal.invariant-loop-row
invariant-loop-row g l = record {
  steps : AreSteps g.R.IdRow.id (IsRowNoted g.R.KeyedRow.second_key l.table.keys) (reverse l.self.puts.items) l.fn.table.rows l.table.rows;
  made : put_all id_before g.R.IdRow.id (drop l.row-index l.news) (rows_but g.R.IdRow.id (is_going l.self.going) l.table.rows)
      ≡ put_all id_before g.R.IdRow.id l.news (rows_without g.R.IdRow.id l.gone l.fn.table.rows);
}
