use Rattle.std.proofs.Common.{◌≡◌, ◌+◌, drop}
use Rattle.mr_model.specs.Writes.{choices_of}
use Rattle.mr_model.specs.Replay.{first_free}
use Rattle.mr_replay.specs.Rows.{bookings_of}
use Rattle.mr_replay.proofs.choice.first_free.Given as goal

-- the first free choice is the first free one of the alternatives that are left
abbrev pub invariant-loop-slot : goal.invariant-loop-slot
invariant-loop-slot g l = record {
  counted : l.k ≡ l.slot-index;
  left : first_free (bookings_of l.room (g.B.Bookings.rows l.board)) l.meeting.length 0 (choices_of l.meeting)
      ≡ first_free (bookings_of l.room (g.B.Bookings.rows l.board)) l.meeting.length (l.k + 1) (drop l.slot-index l.slot-items);
}
