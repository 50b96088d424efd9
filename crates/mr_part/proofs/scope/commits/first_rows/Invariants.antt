use Rattle.std.proofs.Common.{◌≡◌, ◌-◌, length, take, drop, map}
use Rattle.std.specs.List.{filter}
use Rattle.mr_model.specs.Scopes.{is_tentative, by_stamp}
use Rattle.mr_part.proofs.scope.commits.first_rows.Given as goal

-- the rows from the end so far are put
abbrev pub invariant-loop-k : goal.invariant-loop-k
invariant-loop-k l = map (λ row. row.now) l.first.items ≡ take l.count (by_stamp (filter is_tentative (drop (length l.rows - l.k) l.rows)))
