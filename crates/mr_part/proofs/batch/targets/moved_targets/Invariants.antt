use Rattle.std.proofs.Common.{◌≡◌, map, take}
use Rattle.mr_model.specs.Dropped.{Has}
use Rattle.mr_model.specs.Writes.{Write}
use Rattle.mr_replay.specs.Bookings.{if_taken}
use Rattle.mr_replay.specs.Rows.{Rows}
use Rattle.mr_tables.specs.Cells.{place_row_of}
use Rattle.mr_part.specs.Placing.{RowEnds}
use Rattle.mr_part.specs.Targets.{aimed_at, taken_by, moved_targets}
use Rattle.mr_part.proofs.batch.targets.moved_targets.Given as goal

-- those of the writes so far
abbrev pub invariant-loop-k : goal.invariant-loop-k
invariant-loop-k l =
    (old : Rows) → ((w : Write) → Has w l.writes → RowEnds (if_taken (aimed_at l.board w.room w.action))) → l.was ≡ map (taken_by old) l.writes
    → map place_row_of l.rows.items ≡ moved_targets l.summary.tallies old l.board (take l.k l.writes)
