use Rattle.std.proofs.Common.{◌≡◌, drop, map}
use Rattle.mr_model.specs.Writes.{id_of}
use Rattle.mr_tables.specs.Summary.{noted_commits}
use Rattle.mr_tables.proofs.summary.Summary.note_commits.Given as goal

-- what is left to note leads to the same numbers
abbrev pub invariant-loop-write : goal.invariant-loop-write
invariant-loop-write l = noted_commits l.self (map id_of (drop l.write-index l.writes)) ≡ noted_commits l.initial.self (map id_of l.writes)
