use Rattle.std.proofs.Common.{◌≡◌, ◌+◌, drop, map}
use Rattle.mr_part.specs.RowTests.{stamp_place}
use Rattle.mr_part.proofs.scope.commits.place_in.Given as goal

-- the row does not stand before the rows so far
abbrev pub invariant-loop-k : goal.invariant-loop-k
invariant-loop-k l = stamp_place l.row (map (λ row. row.now) l.rows) ≡ l.k + stamp_place l.row (map (λ row. row.now) (drop l.k l.rows))
