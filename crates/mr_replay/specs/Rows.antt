-- A board is seen as the list of its rows, in the order of their ids. What its calls do to that list.
use Rattle.std.specs.Prelude.{Bool, true, false, ◌&&◌, if◌then◌else◌, ℕ, List, [], ◌∷◌, flat_map, bytes_eq, Option, Some, None, option_map, slice_get}
use Rattle.std.specs.List.{AllByRecursion}
use Rattle.std.specs.Map.{lookup, remove_entry}
use Rattle.std.specs.BTreeMap.{insert_entry}
use Rattle.mr_model.specs.Texts.{Text}
use Rattle.mr_model.specs.Slots.{Slot, Overlap, overlaps}
use Rattle.mr_model.specs.Writes.{Id, Meeting, Action, Books, Cancels, Write, id_of, same_id, choices_of}
use Rattle.mr_model.specs.Replay.{Place, Taken, Done, Booking, place_among, slot_at}
use Rattle.mr_base.specs.Ids.{id_cmp}
use Rattle.mr_replay.specs.declared.rows.Standing.{Standing}
use Rattle.mr_replay.specs.declared.rows.Standing.TheVariants.{Booked, CancelledBy, InErrorLog}
use Rattle.mr_replay.specs.declared.rows.Trace.{Trace}
use Rattle.mr_replay.specs.declared.rows.Trace.TheVariants.{OfBooking, OfCancel}
use Rattle.mr_replay.specs.declared.rows.Row.{Row}
use Rattle.mr_replay.specs.Places.{UndoRow}

abbrev pub Rows : Type 0
Rows = List (Id × Row)

-- the row of an id
abbrev pub row_at : Rows → Id → Option Row
row_at b i = lookup (same_id i) b

-- ---- bookings

-- the booking of an id, if it is one that stands
abbrev pub booking_traced : Id → Trace → List Booking
booking_traced i (OfBooking slot length title Booked) = record { id = i; slot = slot; length = length } ∷ []
booking_traced i _ = []

abbrev pub bookings_of_entry : Text → Id × Row → List Booking
bookings_of_entry room e = if bytes_eq e.1.room room then booking_traced e.0 e.1.trace else []

-- the bookings of a room that stand, as those of the definitions
abbrev pub bookings_of : Text → Rows → List Booking
bookings_of room b = flat_map (bookings_of_entry room) b

abbrev pub is_standing : Trace → Bool
is_standing (OfBooking slot length title Booked) = true
is_standing _ = false

-- whether the row is a booking of the room that stands
abbrev pub is_booking_of : Text → Row → Bool
is_booking_of room row = is_standing row.trace && bytes_eq row.room room

abbrev pub is_trace_in_the_way : Slot → ℕ → Trace → Bool
is_trace_in_the_way slot length (OfBooking own own_length title Booked) = overlaps slot length own own_length
is_trace_in_the_way slot length _ = false

-- whether the row is a booking of the room that stands and overlaps the slot
abbrev pub is_in_the_way : Text → Slot → ℕ → Row → Bool
is_in_the_way room slot length row = is_trace_in_the_way slot length row.trace && bytes_eq row.room room

-- no booking of the room overlaps the slot
abbrev pub IsFree : Text → Slot → ℕ → Rows → Type 0
IsFree room slot length b = AllByRecursion (λ x. ¬ (Overlap slot length x.slot x.length)) (bookings_of room b)

-- where a write goes by the bookings of its room: a booking to its first choice that is free among them, a cancel by whether its
-- target is one of them
abbrev pub place_by_rows : Rows → Write → Place
place_by_rows b w = place_among (bookings_of w.room b) w

-- ---- the row of a write

-- the choice that a meeting has at its place
abbrev pub choice_at : Meeting → Place → Option Slot
choice_at m (Taken k) = slice_get (choices_of m) k
choice_at m _ = None

abbrev pub standing_of : Option Id → Standing
standing_of None = Booked
standing_of (Some cancel) = CancelledBy cancel

-- the slot that a booking took, or else its wish
abbrev pub trace_with : Meeting → Option Slot → Option Id → Trace
trace_with m None by = OfBooking m.wish m.length m.title InErrorLog
trace_with m (Some slot) by = OfBooking slot m.length m.title (standing_of by)

-- at its place, with the cancel that took it back. A cancel that is Done has no row: its id stands in its target's row
abbrev pub trace_for : Write → Action → Place → Option Id → Option Trace
trace_for w (Books m) p by = Some (trace_with m (slot_at w p) by)
trace_for w (Cancels target) Done by = None
trace_for w (Cancels target) _ by = Some (OfCancel target)

abbrev pub row_of : Write → Place → Option Id → Option Row
row_of w p by = option_map (λ k. record { room = w.room; trace = k }) (trace_for w w.action p by)

-- ---- marks of cancels

-- a booking that stands is taken back by this cancel, and stands again
abbrev pub with_mark : Id → Trace → Trace
with_mark cancel (OfBooking slot length title Booked) = OfBooking slot length title (CancelledBy cancel)
with_mark cancel trace = trace

abbrev pub without_mark : Id → Trace → Trace
without_mark cancel (OfBooking slot length title (CancelledBy c)) =
    OfBooking slot length title (if same_id c cancel then Booked else CancelledBy c)
without_mark cancel trace = trace

abbrev pub change : (Trace → Trace) → Row → Row
change f row = record { room = row.room; trace = f row.trace }

-- the row of this id changed
abbrev pub row_changed : (Trace → Trace) → Id → Rows → Rows
row_changed f i [] = []
row_changed f i (e ∷ es) = if same_id i e.0 then (e.0, change f e.1) ∷ es else e ∷ row_changed f i es

-- ---- executing and undoing

abbrev pub target_of : Action → Option Id
target_of (Books m) = None
target_of (Cancels target) = Some target

-- what a write took back that went to this place: a cancel that is Done its target
abbrev pub target_if_done : Place → Option Id → Option Id
target_if_done Done target = target
target_if_done _ target = None

abbrev pub marked_with : Id → Option Id → Rows → Rows
marked_with cancel None b = b
marked_with cancel (Some target) b = row_changed (with_mark cancel) target b

-- with a mark in the row of what was taken back
abbrev pub marked_by : Id → Place → Option Id → Rows → Rows
marked_by cancel p target b = marked_with cancel (target_if_done p target) b

abbrev pub with_row : Id → Option Row → Rows → Rows
with_row i None b = b
with_row i (Some row) b = insert_entry id_cmp b i row

-- the board after a write goes to this place: with a row more, or a mark in its target's row
abbrev pub executed_at : Rows → Write → Place → Rows
executed_at b w p = with_row (id_of w) (row_of w p None) (marked_by (id_of w) p (target_of w.action) b)

-- the board after a write is executed
abbrev pub executed : Rows → Write → Rows
executed b w = executed_at b w (place_by_rows b w)

-- what undoes that execution
abbrev pub undo_row_at : Write → Place → UndoRow
undo_row_at w p = record { id = id_of w; place = p; target = target_of w.action }

abbrev pub undo_row_of : Rows → Write → UndoRow
undo_row_of b w = undo_row_at w (place_by_rows b w)

abbrev pub undone_with : Id → Option Id → Rows → Rows
undone_with i None b = remove_entry (same_id i) b
undone_with i (Some target) b = row_changed (without_mark i) target b

abbrev pub undone_by : Id → Place → Option Id → Rows → Rows
undone_by i p target b = undone_with i (target_if_done p target) b

-- the board after an execution is undone: without its row, or without its mark
abbrev pub undone : Rows → UndoRow → Rows
undone b u = undone_by u.id u.place u.target b

-- the board after these writes are executed, the first of them first
abbrev pub executed_all : Rows → List Write → Rows
executed_all b [] = b
executed_all b (w ∷ ws) = executed_all (executed b w) ws

abbrev pub undo_rows_of : Rows → List Write → List UndoRow
undo_rows_of b [] = []
undo_rows_of b (w ∷ ws) = undo_row_of b w ∷ undo_rows_of (executed b w) ws

-- the board after these executions are undone, the last of them first
abbrev pub undone_all : Rows → List UndoRow → Rows
undone_all b [] = b
undone_all b (u ∷ us) = undone (undone_all b us) u
