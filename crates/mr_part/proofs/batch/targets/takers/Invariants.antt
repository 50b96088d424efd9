use Rattle.std.proofs.Common.{◌≡◌, map, take}
use Rattle.mr_part.specs.Targets.{taken_by}
use Rattle.mr_part.proofs.batch.targets.takers.Given as goal

-- those of the writes so far
abbrev pub invariant-loop-write : goal.invariant-loop-write
invariant-loop-write l = l.takers.items ≡ map (taken_by l.board) (take l.write-index l.writes)
