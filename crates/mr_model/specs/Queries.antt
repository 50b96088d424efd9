-- What the rows tell of a room: the answers to questions, read off the tables.
use Rattle.std.specs.Prelude.{◌≡◌, ℕ, ◌<◌, Bool, true, not, ◌==◌, if◌then◌else◌, ◌↔◌, ◌⊎◌, List, [], ◌∷◌}
use Rattle.std.specs.List.{AllByRecursion}
use Rattle.mr_model.specs.Texts.{Text}
use Rattle.mr_model.specs.Calendar.{date_before}
use Rattle.mr_model.specs.Writes.{Id, Action, Books, Cancels}
use Rattle.mr_model.specs.Replica.{Replica}
use Rattle.mr_model.specs.Replies.{Entry, Logging, RequestLogged, CancelLogged, Outcome, Booked, NotBooked, Cancelled, CancelDone, CancelVoid, Reply, OutcomeIs}
use Rattle.mr_model.specs.Tables.{LogRow, BookingRow, ErrorRow, CancelledRow, CancelRow, PlaceRow, Tables, as_booked, tables_of}
use Rattle.mr_model.specs.Tables as rows
use Rattle.mr_model.specs.Dropped.{Has}

-- a booking row as a calendar shows it
abbrev pub row_entry : BookingRow → Entry
row_entry r = record { day = r.day; start = r.start; stop = r.stop; is_committed = r.committed; id = record { server = r.server; n = r.n }; title = r.title }

abbrev pub booking_id : BookingRow → Id
booking_id r = record { server = r.server; n = r.n }

abbrev pub error_id : ErrorRow → Id
error_id r = record { server = r.server; n = r.n }

abbrev pub cancelled_id : CancelledRow → Id
cancelled_id r = record { server = r.server; n = r.n }

abbrev pub cancel_id : CancelRow → Id
cancel_id r = record { server = r.server; n = r.n }

abbrev pub log_id : LogRow → Id
log_id r = record { server = r.server; n = r.n }

-- a row with a commit number has the mark
abbrev pub is_marked : ℕ → Bool
is_marked seq = not (seq == 0)

-- ---- outcomes

abbrev pub booked_outcome : BookingRow → Outcome
booked_outcome r = Booked (booking_id r) r.committed r.day r.start r.stop

abbrev pub logged_outcome : ErrorRow → Outcome
logged_outcome r = NotBooked (error_id r) (is_marked r.seq)

-- with the row of the cancel
abbrev pub cancelled_outcome : CancelledRow → CancelRow → Outcome
cancelled_outcome r c = Cancelled (cancelled_id r) r.committed (is_marked c.seq) (cancel_id c)

abbrev pub cancel_outcome : CancelRow → Outcome
cancel_outcome c =
    if c.done then CancelDone (cancel_id c) (is_marked c.seq) c.target else CancelVoid (cancel_id c) (is_marked c.seq) c.target

-- the row of the cancel that took a booking back
pub record IsCancelOf (t : Tables) (row : CancelledRow) (c : CancelRow) : Type 0 where
  pub is_there : Has c t.cancels
  pub is_by : cancel_id c ≡ row.by
  pub is_done : c.done ≡ true
  pub is_target : c.target ≡ cancelled_id row
  pub same_room : c.room ≡ row.room

-- what the row of a write tells as its outcome
pub data TellsOutcome (t : Tables) : PlaceRow → Reply → Type 0 where
  of_booking : (row : BookingRow) → TellsOutcome t (rows.Booked row) (OutcomeIs (booked_outcome row))
  of_error : (row : ErrorRow) → TellsOutcome t (rows.Erred row) (OutcomeIs (logged_outcome row))
  of_cancelled : (row : CancelledRow) (c : CancelRow) → IsCancelOf t row c → TellsOutcome t (rows.Cancelled row) (OutcomeIs (cancelled_outcome row c))
  of_cancel : (row : CancelRow) → TellsOutcome t (rows.Cancel row) (OutcomeIs (cancel_outcome row))

-- ---- the row of a write, in its table

abbrev pub row_id : PlaceRow → Id
row_id (rows.Booked row) = booking_id row
row_id (rows.Erred row) = error_id row
row_id (rows.Cancelled row) = cancelled_id row
row_id (rows.Cancel row) = cancel_id row

abbrev pub row_room : PlaceRow → Text
row_room (rows.Booked row) = row.room
row_room (rows.Erred row) = row.room
row_room (rows.Cancelled row) = row.room
row_room (rows.Cancel row) = row.room

-- a booking has a row in booking, errorlog or cancelled, a cancel in cancels, with its target
abbrev pub IsRowFor : Action → PlaceRow → Type 0
IsRowFor (Books m) (rows.Booked row) = Unit {0}
IsRowFor (Books m) (rows.Erred row) = Unit {0}
IsRowFor (Books m) (rows.Cancelled row) = Unit {0}
IsRowFor (Books m) (rows.Cancel row) = ⊥
IsRowFor (Cancels target) (rows.Booked row) = ⊥
IsRowFor (Cancels target) (rows.Erred row) = ⊥
IsRowFor (Cancels target) (rows.Cancelled row) = ⊥
IsRowFor (Cancels target) (rows.Cancel row) = row.target ≡ target

abbrev pub IsRowIn : Tables → PlaceRow → Type 0
IsRowIn t (rows.Booked row) = Has row t.booking
IsRowIn t (rows.Erred row) = Has row t.errorlog
IsRowIn t (rows.Cancelled row) = Has row t.cancelled
IsRowIn t (rows.Cancel row) = Has row t.cancels

-- ---- calendars

-- by day, then by start
abbrev pub BookingBefore : BookingRow → BookingRow → Type 0
BookingBefore a b = (date_before a.day b.day ≡ true) ⊎ ((a.day ≡ b.day) × (a.start < b.start))

abbrev pub AreInStartOrder : List BookingRow → Type 0
AreInStartOrder [] = Unit {0}
AreInStartOrder (r ∷ rs) = AllByRecursion (BookingBefore r) rs × AreInStartOrder rs

-- just the booking rows of a room
abbrev pub AreBookingsOf : Replica → Text → List BookingRow → Type 0
AreBookingsOf r room rows = (row : BookingRow) → Has row rows ↔ (Has row (tables_of r).booking × (row.room ≡ room))

-- a committed booking that stands, or one that a tentative cancel took back, as it was before
pub data IsCommittedBooking (r : Replica) (room : Text) (row : BookingRow) : Type 0 where
  stands : Has row (tables_of r).booking → row.room ≡ room → row.committed ≡ true → IsCommittedBooking r room row
  back : (gone : CancelledRow) (c : CancelRow)
      → Has gone (tables_of r).cancelled → gone.room ≡ room → gone.committed ≡ true
      → Has c (tables_of r).cancels → cancel_id c ≡ gone.by → c.seq ≡ 0 → row ≡ as_booked gone → IsCommittedBooking r room row

abbrev pub AreCommittedBookingsOf : Replica → Text → List BookingRow → Type 0
AreCommittedBookingsOf r room rows = (row : BookingRow) → Has row rows ↔ IsCommittedBooking r room row

-- ---- the error log

-- a line of the error log: a request that was logged, or a void cancel
pub data LogLine : Type 0 where
  OfLogged : (row : ErrorRow) → LogLine
  OfVoid : (row : CancelRow) → LogLine

abbrev pub line_seq : LogLine → ℕ
line_seq (OfLogged r) = r.seq
line_seq (OfVoid c) = c.seq

abbrev pub line_time : LogLine → ℕ
line_time (OfLogged r) = r.time
line_time (OfVoid c) = c.time

abbrev pub line_server : LogLine → ℕ
line_server (OfLogged r) = r.server
line_server (OfVoid c) = c.server

-- as the error log shows it
abbrev pub row_logging : ErrorRow → Logging
row_logging r = RequestLogged (record { is_committed = is_marked r.seq; id = record { server = r.server; n = r.n }; day = r.day; start = r.start; stop = r.stop; title = r.title })

abbrev pub line_logging : LogLine → Logging
line_logging (OfLogged r) = row_logging r
line_logging (OfVoid c) = CancelLogged (is_marked c.seq) (cancel_id c) c.target

-- committed ones first, by their number; then the others, by time and server
pub data LineBefore : LogLine → LogLine → Type 0 where
  both : {r s : LogLine} → 0 < line_seq r → line_seq r < line_seq s → LineBefore r s
  one : {r s : LogLine} → 0 < line_seq r → line_seq s ≡ 0 → LineBefore r s
  none : {r s : LogLine} → line_seq r ≡ 0 → line_seq s ≡ 0
      → (line_time r < line_time s) ⊎ ((line_time r ≡ line_time s) × (line_server r < line_server s)) → LineBefore r s

abbrev pub AreInLogOrder : List LogLine → Type 0
AreInLogOrder [] = Unit {0}
AreInLogOrder (l ∷ ls) = AllByRecursion (LineBefore l) ls × AreInLogOrder ls

-- a line of the room: its error rows, and its cancels that are not done
abbrev pub IsLineOf : Replica → Text → LogLine → Type 0
IsLineOf r room (OfLogged row) = Has row (tables_of r).errorlog × (row.room ≡ room)
IsLineOf r room (OfVoid row) = Has row (tables_of r).cancels × (row.room ≡ room) × (not row.done ≡ true)

abbrev pub AreErrorsOf : Replica → Text → List LogLine → Type 0
AreErrorsOf r room ls = (l : LogLine) → Has l ls ↔ IsLineOf r room l
