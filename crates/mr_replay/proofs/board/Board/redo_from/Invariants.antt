use Rattle.std.proofs.Common.{drop}
use Rattle.mr_replay.proofs.Redoing.{IsRedone}
use Rattle.mr_replay.proofs.board.Board.redo_from.Given as goal

-- what is done and what is left make the whole, and undoing what is done leads back
abbrev pub invariant-loop-write : goal.invariant-loop-write
invariant-loop-write l = IsRedone l.initial.self l.writes (drop l.write-index l.writes) l.self l.rows.items
