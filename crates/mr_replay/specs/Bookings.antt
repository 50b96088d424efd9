-- A board that has the bookings of one room, whatever else it has: what replaying that room's last writes gives on it.
use Rattle.std.specs.Prelude.{◌≡◌, Bool, true, false, List, [], ◌++◌, map, Option, Some, None, if◌then◌else◌}
use Rattle.std.specs.List.Sorted.{IsStrictlySortedBy}
use Rattle.std.specs.Map.{keys_of}
use Rattle.mr_model.specs.Texts.{Text}
use Rattle.mr_model.specs.Writes.{Id, Write}
use Rattle.mr_model.specs.Replay.{replay_among}
use Rattle.mr_model.specs.Board.{after}
use Rattle.mr_base.specs.Ids.{id_cmp}
use Rattle.mr_replay.specs.declared.rows.Standing.TheVariants.{Booked, CancelledBy, InErrorLog}
use Rattle.mr_replay.specs.declared.rows.Trace.{Trace}
use Rattle.mr_replay.specs.declared.rows.Trace.TheVariants.{OfBooking, OfCancel}
use Rattle.mr_replay.specs.declared.rows.Row.{Row}
use Rattle.mr_replay.specs.Places.{UndoRow}
use Rattle.mr_replay.specs.Rows.{Rows, row_at, undo_rows_of, executed_all, undone_all}
use Rattle.mr_replay.specs.Holds.{HaveDistinctIds, AreOfRoom, told_list, row_in, if_of, undo_rows_after}

-- whether it is a booking that took its slot, whether a cancel took it back or not
abbrev pub is_taken : Trace → Bool
is_taken (OfBooking slot length title Booked) = true
is_taken (OfBooking slot length title (CancelledBy cancel)) = true
is_taken (OfBooking slot length title InErrorLog) = false
is_taken (OfCancel target) = false

-- the row, if it is one of a booking that took its slot
abbrev pub if_taken : Option Row → Option Row
if_taken None = None
if_taken (Some row) = if is_taken row.trace then Some row else None

-- in this room the board has for each id the booking that the replay of these writes gives it, cancelled or not, and no other
-- booking; what it has of other rooms, of the error log and of cancels is left open
abbrev pub HasBookings : Text → List Write → Rows → Type 0
HasBookings room ws b = (i : Id) → if_taken (if_of room (row_at b i)) ≡ if_taken (row_in (told_list ws) i)

-- the board has the room's bookings, and the undo rows are those of the last writes of its list; the others are of the room too,
-- and repeat no id of the first ones
pub record CanReplayBookings (room : Text) (front tail : List Write) (b : Rows) (undone : List UndoRow) (again : List Write) : Type 0 where
  pub ordered : IsStrictlySortedBy id_cmp (keys_of b)
  pub bookings : HasBookings room (front ++ tail) b
  pub distinct : HaveDistinctIds (front ++ tail)
  pub of_room : AreOfRoom room (front ++ tail)
  pub rows : undone ≡ undo_rows_after front tail
  pub again_of_room : AreOfRoom room again
  pub again_distinct : HaveDistinctIds (front ++ again)

-- once these are undone, the board has the bookings of the first writes; executed on it, the others get the places that
-- the room's replay gives them, and the board has the bookings of both
abbrev pub BookingsReplay : Type 0
BookingsReplay =
    (room : Text) (front tail : List Write) (b : Rows) (us : List UndoRow) (again : List Write)
    → CanReplayBookings room front tail b us again
    → HasBookings room front (undone_all b us)
    × (map (λ u. u.place) (undo_rows_of (undone_all b us) again) ≡ replay_among (after [] front) again)
    × HasBookings room (front ++ again) (executed_all (undone_all b us) again)
