-- Tables: the rows that stand for a replica, each table in the order of its keys.
use Rattle.std.specs.Prelude.{◌≡◌, ℕ, ◌+◌, Bool, true, false, not, if◌then◌else◌, ◌==◌, List, [], ◌∷◌, length, map, filter, filter_map, flat_map, Option, Some, None}
use Rattle.mr_model.specs.Texts.{Text, words, numbers_on}
use Rattle.mr_model.specs.Calendar.{Date}
use Rattle.mr_model.specs.Slots.{Slot, slot_words}
use Rattle.mr_model.specs.Writes.{Id, Meeting, Action, Books, Cancels, Write, id_of, same_id, choices_of}
use Rattle.mr_model.specs.Replay.{Place, Taken, Logged, Done, Void, slot_at}
use Rattle.mr_model.specs.Replica.{Replica, count_of, clock_of, last_time, committed_count, is_committed, is_dropped, writes_of, IsReplica}
use Rattle.mr_model.specs.View.{place_of, canceller_of}

pub record MetaRow : Type 0 where
  pub server : ℕ
  pub primary : ℕ
  pub commits : ℕ
  pub dropped : ℕ
  pub clock : ℕ

-- what is known of a server: how many writes, the time of the last, and how many are committed
pub record VectorRow : Type 0 where
  pub server : ℕ
  pub count : ℕ
  pub last_time : ℕ
  pub committed : ℕ

-- what a row of the log has of a meeting
pub record MeetingCells : Type 0 where
  pub length : ℕ
  pub choices : Text
  pub title : Text

-- what it has of a write: the meeting that it books, or the target that it cancels
pub data ActionCells : Type 0 where
  OfMeeting : (meeting : MeetingCells) → ActionCells
  OfCancel : (target : Id) → ActionCells

-- a write that is kept, with its place, and its commit number, which is 0 where it is tentative
pub record LogRow : Type 0 where
  pub server : ℕ
  pub n : ℕ
  pub time : ℕ
  pub room : Text
  pub action : ActionCells
  pub place : Place
  pub seq : ℕ

-- a booking that stands
pub record BookingRow : Type 0 where
  pub room : Text
  pub day : Date
  pub start : ℕ
  pub stop : ℕ
  pub server : ℕ
  pub n : ℕ
  pub title : Text
  pub committed : Bool

-- a request that was logged, with its wished slot
pub record ErrorRow : Type 0 where
  pub room : Text
  pub day : Date
  pub start : ℕ
  pub stop : ℕ
  pub server : ℕ
  pub n : ℕ
  pub title : Text
  pub time : ℕ
  pub seq : ℕ

-- a booking that a cancel took back, with its own mark, and the cancel
pub record CancelledRow : Type 0 where
  pub room : Text
  pub day : Date
  pub start : ℕ
  pub stop : ℕ
  pub server : ℕ
  pub n : ℕ
  pub title : Text
  pub committed : Bool
  pub by : Id

-- a cancel, and whether it took its target back
pub record CancelRow : Type 0 where
  pub server : ℕ
  pub n : ℕ
  pub room : Text
  pub target : Id
  pub done : Bool
  pub time : ℕ
  pub seq : ℕ

pub record Tables : Type 0 where
  pub meta : MetaRow
  pub room : List Text
  pub vector : List VectorRow
  pub log : List LogRow
  pub booking : List BookingRow
  pub errorlog : List ErrorRow
  pub cancelled : List CancelledRow
  pub cancels : List CancelRow

-- ---- what is read off a replica

-- the writes by server, and those of one server by their count
abbrev pub by_id : List Write → List Write
by_id ws = flat_map (λ s. writes_of s ws) (numbers_on 1 99)

-- the number of an id among the commits from number k on, or 0
abbrev pub seq_among : ℕ → List Id → Id → ℕ
seq_among k [] id = 0
seq_among k (x ∷ xs) id = if same_id x id then k else seq_among (k + 1) xs id

abbrev pub seq_of : Replica → Write → ℕ
seq_of r w = seq_among 1 r.commits (id_of w)

-- ---- the row of what became of a write

-- a booking has one row, in booking, errorlog or cancelled, and a cancel one in cancels
pub data PlaceRow : Type 0 where
  Booked : (row : BookingRow) → PlaceRow
  Erred : (row : ErrorRow) → PlaceRow
  Cancelled : (row : CancelledRow) → PlaceRow
  Cancel : (row : CancelRow) → PlaceRow

abbrev pub booked_in : Write → Meeting → Slot → Bool → BookingRow
booked_in w m s mark =
    record {
      room = w.room;
      day = s.day;
      start = s.start;
      stop = s.start + m.length;
      server = w.stamp.server;
      n = w.stamp.n;
      title = m.title;
      committed = mark;
    }

abbrev pub erred_in : Write → Meeting → ℕ → ErrorRow
erred_in w m seq =
    record {
      room = w.room;
      day = m.wish.day;
      start = m.wish.start;
      stop = m.wish.start + m.length;
      server = w.stamp.server;
      n = w.stamp.n;
      title = m.title;
      time = w.stamp.time;
      seq = seq;
    }

-- the row of a booking that a cancel takes back, and that row as it was before
abbrev pub taken_back : Id → BookingRow → CancelledRow
taken_back by b =
    record {
      room = b.room;
      day = b.day;
      start = b.start;
      stop = b.stop;
      server = b.server;
      n = b.n;
      title = b.title;
      committed = b.committed;
      by = by;
    }

abbrev pub as_booked : CancelledRow → BookingRow
as_booked c =
    record {
      room = c.room;
      day = c.day;
      start = c.start;
      stop = c.stop;
      server = c.server;
      n = c.n;
      title = c.title;
      committed = c.committed;
    }

abbrev pub is_done : Place → Bool
is_done (Taken k) = false
is_done Logged = false
is_done Done = true
is_done Void = false

abbrev pub cancel_row_for : Write → Id → Place → ℕ → CancelRow
cancel_row_for w target place seq =
    record {
      server = w.stamp.server;
      n = w.stamp.n;
      room = w.room;
      target = target;
      done = is_done place;
      time = w.stamp.time;
      seq = seq;
    }

abbrev pub booking_place_row : Write → Meeting → Option Slot → Option Id → Bool → ℕ → PlaceRow
booking_place_row w m None by mark seq = Erred (erred_in w m seq)
booking_place_row w m (Some s) None mark seq = Booked (booked_in w m s mark)
booking_place_row w m (Some s) (Some cancel) mark seq = Cancelled (taken_back cancel (booked_in w m s mark))

-- at its place, with the cancel that took it back, its mark and its commit number
abbrev pub place_row_for : Write → Action → Place → Option Id → Bool → ℕ → PlaceRow
place_row_for w (Books m) place by mark seq = booking_place_row w m (slot_at w place) by mark seq
place_row_for w (Cancels target) place by mark seq = Cancel (cancel_row_for w target place seq)

abbrev pub place_row : Replica → Write → PlaceRow
place_row r w = place_row_for w w.action (place_of r w) (canceller_of r w) (is_committed r (id_of w)) (seq_of r w)

-- the row, if it is of this table
abbrev pub as_booking : PlaceRow → Option BookingRow
as_booking (Booked row) = Some row
as_booking (Erred row) = None
as_booking (Cancelled row) = None
as_booking (Cancel row) = None

abbrev pub as_error : PlaceRow → Option ErrorRow
as_error (Booked row) = None
as_error (Erred row) = Some row
as_error (Cancelled row) = None
as_error (Cancel row) = None

abbrev pub as_cancelled : PlaceRow → Option CancelledRow
as_cancelled (Booked row) = None
as_cancelled (Erred row) = None
as_cancelled (Cancelled row) = Some row
as_cancelled (Cancel row) = None

abbrev pub as_cancel : PlaceRow → Option CancelRow
as_cancel (Booked row) = None
as_cancel (Erred row) = None
as_cancel (Cancelled row) = None
as_cancel (Cancel row) = Some row

abbrev pub booking_row : Replica → Write → Option BookingRow
booking_row r w = as_booking (place_row r w)

abbrev pub error_row : Replica → Write → Option ErrorRow
error_row r w = as_error (place_row r w)

abbrev pub cancelled_row : Replica → Write → Option CancelledRow
cancelled_row r w = as_cancelled (place_row r w)

abbrev pub cancel_row : Replica → Write → Option CancelRow
cancel_row r w = as_cancel (place_row r w)

-- ---- the tables of a replica

abbrev pub vector_row : Replica → ℕ → List VectorRow
vector_row r s =
    if count_of r s == 0 then []
    else record { server = s; count = count_of r s; last_time = last_time r s; committed = committed_count r s } ∷ []

abbrev pub choices_text : Meeting → Text
choices_text m = words (flat_map slot_words (choices_of m))

abbrev pub cells_of : Action → ActionCells
cells_of (Books m) = OfMeeting (record { length = m.length; choices = choices_text m; title = m.title })
cells_of (Cancels target) = OfCancel target

abbrev pub log_row_with : Write → Place → ℕ → LogRow
log_row_with w place seq =
    record {
      server = w.stamp.server;
      n = w.stamp.n;
      time = w.stamp.time;
      room = w.room;
      action = cells_of w.action;
      place = place;
      seq = seq;
    }

abbrev pub log_row : Replica → Write → LogRow
log_row r w = log_row_with w (place_of r w) (seq_of r w)

-- the known writes that are not dropped
abbrev pub kept : Replica → List Write
kept r = filter (λ w. not (is_dropped r (id_of w))) (by_id r.known)

abbrev pub tables_of : Replica → Tables
tables_of r =
    record {
      meta = record { server = r.server; primary = r.primary; commits = length r.commits; dropped = r.dropped; clock = clock_of r };
      room = r.rooms;
      vector = flat_map (vector_row r) (numbers_on 1 99);
      log = map (log_row r) (kept r);
      booking = filter_map (booking_row r) (by_id r.known);
      errorlog = filter_map (error_row r) (by_id r.known);
      cancelled = filter_map (cancelled_row r) (by_id r.known);
      cancels = filter_map (cancel_row r) (by_id r.known);
    }

-- The tables stand for the replica. After a truncation they stand for several, which differ in dropped writes alone.
pub record Stands (t : Tables) (r : Replica) : Type 0 where
  pub sound : IsReplica r
  pub are : t ≡ tables_of r
