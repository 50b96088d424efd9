use Rattle.std.proofs.Common.{◌≡◌, ◌+◌, ◌<◌, ◌^◌, take, length}
use Rattle.mr_tables.specs.Written.{meta_of, written}
use Rattle.mr_tables.proofs.written.written.Given as goal

-- the rows of the writes so far
abbrev pub invariant-loop-k : goal.invariant-loop-k
invariant-loop-k l =
    l.first + length l.writes < 2 ^ 64
    → l.change ≡ written (meta_of l.summary) l.fn.room.items l.fn.vector.items l.summary.commits l.first (take l.k l.writes) (take l.k l.rows) (take l.k l.bys)
