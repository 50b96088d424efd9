use Rattle.std.proofs.Common.{◌≡◌, drop}
use Rattle.mr_agree.specs.Agreeing.{vector_in}
use Rattle.mr_replica.proofs.known.count_in.Given as goal

-- what the vector tells of the server is what the rows that are left tell
abbrev pub invariant-loop-row : goal.invariant-loop-row
invariant-loop-row l = vector_in l.rows l.server ≡ vector_in (drop l.row-index l.rows) l.server
