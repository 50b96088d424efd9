use Rattle.std.proofs.Common.{◌≡◌, take}
use Rattle.mr_part.specs.Placing.{cancellers_on}
use Rattle.mr_part.proofs.calls.placing.cancellers.Given as goal

-- those of the writes so far
abbrev pub invariant-loop-write : goal.invariant-loop-write
invariant-loop-write g l = l.bys.items ≡ cancellers_on (g.B.BoardRows.rows l.board) (take l.write-index l.writes)
