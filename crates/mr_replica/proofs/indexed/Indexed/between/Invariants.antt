use Rattle.std.proofs.Common.{◌≡◌, ◌++◌}
use Rattle.std.specs.Prelude.{filter_map}
use Rattle.mr_replica.specs.RowKeys.{row_of_key}
use Rattle.mr_replica.proofs.indexed.Indexed.between.Given as goal

-- with the rows of the keys that are left it comes to those of all keys
abbrev pub invariant-loop-key : goal.invariant-loop-key
invariant-loop-key g l =
    let at = row_of_key g.R.IdRow.id g.R.KeyedRow.second_key l.self.rows in
    l.rows.items ++ filter_map at l.key-iterator ≡ filter_map at l.initial.key-iterator
