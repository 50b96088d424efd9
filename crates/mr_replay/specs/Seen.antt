-- A board of which some rows may not be seen: all of it is seen, or the bookings of some rooms, those that stand and those that a cancel
-- took back.
use Rattle.std.specs.Prelude.{Bool, ◌&&◌, filter}
use Rattle.std.specs.BTreeSet.{BTreeSet, contains}
use Rattle.std.specs.Cmp.Lexicographic.{slice_cmp}
use Rattle.std.specs.Ordering.{nat_cmp}
use Rattle.mr_model.specs.Texts.{Text}
use Rattle.mr_replay.specs.declared.rows.Row.{Row}
use Rattle.mr_replay.specs.declared.seen.Seen.{Seen}
use Rattle.mr_replay.specs.declared.seen.Seen.TheVariants.{All, InRooms}
use Rattle.mr_replay.specs.Rows.{Rows}
use Rattle.mr_replay.specs.Bookings.{is_taken}

-- whether the set has a room
abbrev pub has_room : BTreeSet Text → Text → Bool
has_room rooms room = contains (slice_cmp nat_cmp) rooms room

-- whether the row is a booking of one of these rooms that took its slot
abbrev pub is_in_rooms : BTreeSet Text → Row → Bool
is_in_rooms rooms row = is_taken row.trace && has_room rooms row.room

-- the bookings of these rooms
abbrev pub seen_in : BTreeSet Text → Rows → Rows
seen_in rooms b = filter (λ e. is_in_rooms rooms e.1) b

-- the rows that are seen
abbrev pub seen_rows : Seen → Rows
seen_rows (All b) = b
seen_rows (InRooms b rooms) = seen_in rooms b.value
