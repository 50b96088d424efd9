-- Plain rows as the cells of their tables, and back.
use Rattle.std.specs.Prelude.{ℕ, zero, suc, ℤ, pos, negsuc, Bool, ◌==◌, if◌then◌else◌, [], ◌∷◌, ◌++◌}
use Rattle.sqlite_value.specs.declared.value.Value.{Value}
use Rattle.sqlite_value.specs.declared.value.Value.TheVariants.{Null, Int, Real, Text, Blob}
use Rattle.sqlite_value.specs.Order.{Row, column, bytes}
use Rattle.mr_model.specs.Texts as texts
use Rattle.mr_model.specs.Calendar.{date_text, date_in}
use Rattle.mr_model.specs.Writes.{Id}
use Rattle.mr_model.specs.Replay.{Place, Taken, Logged, Done, Void}
use Rattle.mr_model.specs.Tables.{MetaRow, VectorRow, ActionCells, OfMeeting, OfCancel, MeetingCells, LogRow, BookingRow, ErrorRow, CancelledRow, taken_back, as_booked, CancelRow}

-- ---- values

abbrev pub whole_of : Value → ℤ
whole_of Null = pos 0
whole_of (Int n) = n
whole_of (Real x) = pos 0
whole_of (Text t) = pos 0
whole_of (Blob b) = pos 0

abbrev pub nat_in : ℤ → ℕ
nat_in (pos n) = n
nat_in (negsuc n) = 0

abbrev pub nat_of : Value → ℕ
nat_of v = nat_in (whole_of v)

abbrev pub flag_number : Bool → ℤ
flag_number b = if b then pos 1 else pos 0

-- a place is the number of its choice, or -1 for Logged, -2 for Done, -3 for Void
abbrev pub place_number : Place → ℤ
place_number (Taken k) = pos k
place_number Logged = negsuc 0
place_number Done = negsuc 1
place_number Void = negsuc 2

abbrev pub place_in : ℤ → Place
place_in (pos k) = Taken k
place_in (negsuc zero) = Logged
place_in (negsuc (suc zero)) = Done
place_in (negsuc (suc (suc n))) = Void

-- ---- an action: its kind, 0 for a booking and 1 for a cancel, a booking's length, choices and title, and a cancel's target

-- What an action hasn't is 0 or an empty text.
abbrev pub action_row : ActionCells → Row
action_row (OfMeeting m) = Int (pos 0) ∷ Int (pos m.length) ∷ Text m.choices ∷ Text m.title ∷ Int (pos 0) ∷ Int (pos 0) ∷ []
action_row (OfCancel target) = Int (pos 1) ∷ Int (pos 0) ∷ Text [] ∷ Text [] ∷ Int (pos target.server) ∷ Int (pos target.n) ∷ []

abbrev pub action_in : ℕ → MeetingCells → Id → ActionCells
action_in zero meeting target = OfMeeting meeting
action_in (suc k) meeting target = OfCancel target

-- ---- rows; `row_in` gets the rowid in front, which it doesn't read

-- the second cell is the number of the schema
-- under the schema of this number
abbrev pub meta_cells_of : ℕ → MetaRow → Row
meta_cells_of schema m = Int (pos 1) ∷ Int (pos schema) ∷ Int (pos m.server) ∷ Int (pos m.primary) ∷ Int (pos m.commits) ∷ Int (pos m.dropped) ∷ Int (pos m.clock) ∷ []

abbrev pub meta_in : Row → MetaRow
meta_in r = record {
  server = nat_of (column r 3);
  primary = nat_of (column r 4);
  commits = nat_of (column r 5);
  dropped = nat_of (column r 6);
  clock = nat_of (column r 7);
}

abbrev pub room_cells : texts.Text → Row
room_cells name = Text name ∷ []

abbrev pub room_in : Row → texts.Text
room_in r = bytes (column r 1)

abbrev pub vector_cells : VectorRow → Row
vector_cells v = Int (pos v.server) ∷ Int (pos v.count) ∷ Int (pos v.last_time) ∷ Int (pos v.committed) ∷ []

abbrev pub vector_row_from : Row → VectorRow
vector_row_from r = record {
  server = nat_of (column r 1);
  count = nat_of (column r 2);
  last_time = nat_of (column r 3);
  committed = nat_of (column r 4);
}

abbrev pub log_cells : LogRow → Row
log_cells w = Int (pos w.server) ∷ Int (pos w.n) ∷ Int (pos w.time) ∷ Text w.room ∷ (action_row w.action ++ Int (place_number w.place) ∷ Int (pos w.seq) ∷ [])

abbrev pub log_in : Row → LogRow
log_in r = record {
  server = nat_of (column r 1);
  n = nat_of (column r 2);
  time = nat_of (column r 3);
  room = bytes (column r 4);
  action =
      action_in (nat_of (column r 5)) (record { length = nat_of (column r 6); choices = bytes (column r 7); title = bytes (column r 8) })
      (record { server = nat_of (column r 9); n = nat_of (column r 10) });
  place = place_in (whole_of (column r 11));
  seq = nat_of (column r 12);
}

abbrev pub booking_cells : BookingRow → Row
booking_cells b = Text b.room ∷ Text (date_text b.day) ∷ Int (pos b.start) ∷ Int (pos b.stop) ∷ Int (pos b.server) ∷ Int (pos b.n) ∷ Text b.title
    ∷ Int (flag_number b.committed) ∷ []

abbrev pub booking_row_from : Row → BookingRow
booking_row_from r = record {
  room = bytes (column r 1);
  day = date_in (bytes (column r 2));
  start = nat_of (column r 3);
  stop = nat_of (column r 4);
  server = nat_of (column r 5);
  n = nat_of (column r 6);
  title = bytes (column r 7);
  committed = nat_of (column r 8) == 1;
}

abbrev pub error_cells : ErrorRow → Row
error_cells e = Text e.room ∷ Text (date_text e.day) ∷ Int (pos e.start) ∷ Int (pos e.stop) ∷ Int (pos e.server) ∷ Int (pos e.n) ∷ Text e.title
    ∷ Int (pos e.time) ∷ Int (pos e.seq) ∷ []

abbrev pub error_in : Row → ErrorRow
error_in r = record {
  room = bytes (column r 1);
  day = date_in (bytes (column r 2));
  start = nat_of (column r 3);
  stop = nat_of (column r 4);
  server = nat_of (column r 5);
  n = nat_of (column r 6);
  title = bytes (column r 7);
  time = nat_of (column r 8);
  seq = nat_of (column r 9);
}

-- a booking's, and the id of the cancel that took it back
abbrev pub cancelled_cells : CancelledRow → Row
cancelled_cells c = booking_cells (as_booked c) ++ Int (pos c.by.server) ∷ Int (pos c.by.n) ∷ []

abbrev pub cancelled_in : Row → CancelledRow
cancelled_in r = taken_back (record { server = nat_of (column r 9); n = nat_of (column r 10) }) (booking_row_from r)

abbrev pub cancel_cells : CancelRow → Row
cancel_cells c = Int (pos c.server) ∷ Int (pos c.n) ∷ Text c.room ∷ Int (pos c.target.server) ∷ Int (pos c.target.n) ∷ Int (flag_number c.done) ∷ Int (pos c.time)
    ∷ Int (pos c.seq) ∷ []

abbrev pub cancel_row_from : Row → CancelRow
cancel_row_from r = record {
  server = nat_of (column r 1);
  n = nat_of (column r 2);
  room = bytes (column r 3);
  target = record { server = nat_of (column r 4); n = nat_of (column r 5) };
  done = nat_of (column r 6) == 1;
  time = nat_of (column r 7);
  seq = nat_of (column r 8);
}
