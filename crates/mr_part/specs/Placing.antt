-- Rows of what became of writes, as a board tells them, and how they come into a change.
use Rattle.std.specs.Prelude.{◌+◌, ◌≤◌, if◌then◌else◌, bytes_eq, Bool, true, false, List, [], ◌∷◌, map, Option, Some, None, ℕ, nat_le, ◌<◌, ◌^◌}
use Rattle.mr_model.specs.Texts.{Text}
use Rattle.mr_model.specs.Writes.{Id, Write, id_of}
use Rattle.mr_model.specs.Tables.{PlaceRow, Booked, Cancelled, taken_back, BookingRow}
use Rattle.mr_replay.specs.declared.rows.Standing.TheVariants as standing
use Rattle.mr_replay.specs.declared.rows.Trace.{Trace}
use Rattle.mr_replay.specs.declared.rows.Trace.TheVariants.{OfBooking, OfCancel}
use Rattle.mr_replay.specs.declared.rows.Row.{Row}
use Rattle.mr_replay.specs.Places.{UndoRow}
use Rattle.mr_replay.specs.Rows.{Rows, row_at, target_if_done as taken_back_by, undo_row_of, target_of}
use Rattle.mr_tables.specs.declared.summary.Tally.{Tally}
use Rattle.mr_tables.specs.Change.{ChangeView}
use Rattle.mr_tables.specs.Written.{with_place, meta_of, changed_tallies, written}
use Rattle.mr_model.specs.Slots.{Slot}
use Rattle.mr_tables.specs.Summary.{tally_at}
use Rattle.mr_tables.specs.declared.summary.Summary.{Summary}
use Rattle.mr_part.specs.Parts.{PartView}

-- these rows are put one after the other, each into its table
abbrev pub with_places_put : ChangeView → List PlaceRow → ChangeView
with_places_put c [] = c
with_places_put c (row ∷ rows) = with_places_put (with_place c row) rows

-- ---- rows of bookings, read off the board

-- a booking with this slot; the first of a server's writes are the committed ones
abbrev pub booking_at : List Tally → Id → Text → Slot → ℕ → Text → BookingRow
booking_at ts id room slot length title =
    record {
      room = room;
      day = slot.day;
      start = slot.start;
      stop = slot.start + length;
      server = id.server;
      n = id.n;
      title = title;
      committed = nat_le id.n (tally_at ts id.server).committed;
    }

-- it has its slot, or a cancel took it back; one that found no slot has no row of these
abbrev pub trace_place : List Tally → Id → Text → Trace → Option PlaceRow
trace_place ts id room (OfBooking slot length title standing.Booked) = Some (Booked (booking_at ts id room slot length title))
trace_place ts id room (OfBooking slot length title (standing.CancelledBy by)) =
    Some (Cancelled (taken_back by (booking_at ts id room slot length title)))
trace_place ts id room _ = None

abbrev pub board_place : List Tally → Id → Row → Option PlaceRow
board_place ts id row = trace_place ts id row.room row.trace

-- a booking ends on its day
abbrev pub TraceEnds : Trace → Type 0
TraceEnds (OfBooking slot length title stands) = slot.start + length ≤ 1440
TraceEnds (OfCancel target) = Unit {0}

abbrev pub RowEnds : Option Row → Type 0
RowEnds None = Unit {0}
RowEnds (Some row) = TraceEnds row.trace

-- ---- cancels

-- the cancel that took a booking back, if one did
abbrev pub canceller_on : Trace → Option Id
canceller_on (OfBooking slot length title (standing.CancelledBy by)) = Some by
canceller_on _ = None

abbrev pub row_canceller : Option Row → Option Id
row_canceller None = None
row_canceller (Some row) = canceller_on row.trace

-- of each of these writes
abbrev pub cancellers_on : Rows → List Write → List (Option Id)
cancellers_on b ws = map (λ w. row_canceller (row_at b (id_of w))) ws

abbrev pub is_booking_trace : Trace → Bool
is_booking_trace (OfBooking slot length title stands) = true
is_booking_trace (OfCancel target) = false

abbrev pub is_booking_row_in : Text → Option Row → Bool
is_booking_row_in room None = false
is_booking_row_in room (Some row) = if bytes_eq row.room room then is_booking_trace row.trace else false

-- whether the board has a booking of this room with this id: one that stands, was taken back or found no slot
abbrev pub has_booking_on : Rows → Text → Id → Bool
has_booking_on b room id = is_booking_row_in room (row_at b id)

-- the row of a booking that stands, where this cancel takes it back
abbrev pub row_taken_back : Id → Option PlaceRow → List PlaceRow
row_taken_back by (Some (Booked row)) = Cancelled (taken_back by row) ∷ []
row_taken_back by _ = []

abbrev pub taken_on : List Tally → Id → Id → Option Row → List PlaceRow
taken_on ts by target None = []
taken_on ts by target (Some row) = row_taken_back by (board_place ts target row)

-- the target of a write that took it back
abbrev pub taken_rows_of : List Tally → Rows → Id → Option Id → List PlaceRow
taken_rows_of ts b by None = []
taken_rows_of ts b by (Some target) = taken_on ts by target (row_at b target)

-- the rows that a write puts beside its own, where this undoes it: that of the target that it took back
abbrev pub taken_rows : List Tally → Rows → UndoRow → List PlaceRow
taken_rows ts b u = taken_rows_of ts b u.id (taken_back_by u.place u.target)

-- that row ends on its day
abbrev pub TargetEnds : Rows → Option Id → Type 0
TargetEnds b None = Unit {0}
TargetEnds b (Some target) = RowEnds (row_at b target)

-- ---- a write of the replica's own

-- its rows are put, with these numbers, and the row of the booking that it takes back; behind the last commit all places of the order
-- have the same rows
abbrev pub part_puts : PartView → Summary → Write → ChangeView
part_puts p s w =
    with_places_put
    (written (meta_of s) [] (changed_tallies p.summary.tallies s.tallies) s.commits (s.commits + 1) (w ∷ [])
    (undo_row_of p.board w ∷ []) (None ∷ []))
    (taken_rows p.summary.tallies p.board (undo_row_of p.board w))

-- there are few enough commits, and the target of a cancel is a booking that ends on its day
abbrev pub CanPut : PartView → Summary → Write → Type 0
CanPut p s w = (s.commits + 1 + 1 < 2 ^ 64) × TargetEnds p.board (target_of w.action)
