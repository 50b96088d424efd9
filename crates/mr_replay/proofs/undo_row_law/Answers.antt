use Rattle.mr_replay.proofs.Places.{undo_rows-after, undo_rows-room, places-board, places-room}
use Rattle.mr_replay.proofs.RoomBookings.{bookings-replayed}
use Rattle.mr_replay.proofs.undo_row_law.Goals as goal

pub returns-clause-list : goal.returns-clause-list
returns-clause-list c = undo_rows-after

pub returns-clause-room : goal.returns-clause-room
returns-clause-room c = undo_rows-room

pub returns-clause-places : goal.returns-clause-places
returns-clause-places c = places-board

pub returns-clause-apart : goal.returns-clause-apart
returns-clause-apart c = places-room

pub returns-clause-bookings : goal.returns-clause-bookings
returns-clause-bookings c = bookings-replayed
