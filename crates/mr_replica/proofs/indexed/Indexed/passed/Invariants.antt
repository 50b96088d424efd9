use Rattle.std.proofs.Common.{◌≡◌, ◌++◌, Bool}
use Rattle.std.specs.List.{filter}
use Rattle.mr_replica.specs.RowKeys.{is_between}
use Rattle.mr_replica.proofs.indexed.Indexed.passed.Given as goal

-- with those of the rows that are left it comes to those of all rows
abbrev pub invariant-loop-row : goal.invariant-loop-row
invariant-loop-row g l =
    let inside : g.row.R.Denot → Bool = λ r. is_between l.first l.last (g.R.KeyedRow.second_key r) in
    l.rows.items ++ filter inside l.row-iterator ≡ filter inside l.self.rows
