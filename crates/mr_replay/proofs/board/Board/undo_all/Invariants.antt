use Rattle.std.proofs.Common.{◌≡◌, ◌≤◌, take, length}
use Rattle.mr_replay.specs.Rows.{undone_all}
use Rattle.mr_replay.proofs.board.Board.undo_all.Given as goal

-- what is left to undo leads to the same board
abbrev pub invariant-loop-left : goal.invariant-loop-left
invariant-loop-left l = (l.left ≤ length l.rows) × (undone_all l.self (take l.left l.rows) ≡ undone_all l.initial.self l.rows)

abbrev pub decreases-loop-left : goal.decreases-loop-left
decreases-loop-left l = l.left
