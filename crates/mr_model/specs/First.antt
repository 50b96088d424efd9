-- The tables of the first schema, which have bookings of at most 8 alternatives and no cancels; and how they move up.
use Rattle.std.specs.Prelude.{◌≡◌, ℕ, ◌&&◌, ◌==◌, List, [], length, map, flat_map, filter_map, find, Option, Some, option_map, IsTrue}
use Rattle.std.specs.List.{AllByRecursion}
use Rattle.mr_model.specs.Texts.{Text, numbers_on}
use Rattle.mr_model.specs.Writes.{Write, length_of, title_of, is_first_write}
use Rattle.mr_model.specs.Replay.{Place}
use Rattle.mr_model.specs.Replica.{Replica, clock_of, IsReplica}
use Rattle.mr_model.specs.View.{place_of}
use Rattle.mr_model.specs.Tables.{MetaRow, VectorRow, ActionCells, OfMeeting, OfCancel, cells_of, LogRow, BookingRow, ErrorRow, Tables, seq_of, by_id, booking_row, error_row, vector_row, kept}

-- a write that is kept
pub record WriteRow : Type 0 where
  pub server : ℕ
  pub n : ℕ
  pub time : ℕ
  pub room : Text
  pub length : ℕ
  pub choices : Text
  pub title : Text
  pub seq : ℕ

-- its place
pub record FirstUndoRow : Type 0 where
  pub server : ℕ
  pub n : ℕ
  pub place : Place

pub record FirstTables : Type 0 where
  pub meta : MetaRow
  pub room : List Text
  pub vector : List VectorRow
  pub write_log : List WriteRow
  pub undo : List FirstUndoRow
  pub booking : List BookingRow
  pub errorlog : List ErrorRow

-- ---- the first tables of a replica

-- the choices of a meeting; a cancel has none
abbrev pub choices_in_cells : ActionCells → Text
choices_in_cells (OfMeeting m) = m.choices
choices_in_cells (OfCancel target) = []

abbrev pub write_row : Replica → Write → WriteRow
write_row r w =
    record {
      server = w.stamp.server;
      n = w.stamp.n;
      time = w.stamp.time;
      room = w.room;
      length = length_of w;
      choices = choices_in_cells (cells_of w.action);
      title = title_of w;
      seq = seq_of r w;
    }

abbrev pub undo_row : Replica → Write → FirstUndoRow
undo_row r w = record { server = w.stamp.server; n = w.stamp.n; place = place_of r w }

abbrev pub first_tables_of : Replica → FirstTables
first_tables_of r =
    record {
      meta = record { server = r.server; primary = r.primary; commits = length r.commits; dropped = r.dropped; clock = clock_of r };
      room = r.rooms;
      vector = flat_map (vector_row r) (numbers_on 1 99);
      write_log = map (write_row r) (kept r);
      undo = map (undo_row r) (kept r);
      booking = filter_map (booking_row r) (by_id r.known);
      errorlog = filter_map (error_row r) (by_id r.known);
    }

-- First tables stand for replicas that know bookings alone, with at most 8 alternatives.
pub record StandsFirst (t : FirstTables) (r : Replica) : Type 0 where
  pub sound : IsReplica r
  pub all_first : AllByRecursion (λ w. IsTrue (is_first_write w)) r.known
  pub are : t ≡ first_tables_of r

-- ---- moving up

abbrev pub undo_of : WriteRow → List FirstUndoRow → Option FirstUndoRow
undo_of row us = find (λ u. u.server == row.server && u.n == row.n) us

-- a write's row with its place is a row of the one log that takes the two's place
abbrev pub moved_row : WriteRow → FirstUndoRow → LogRow
moved_row row u =
    record {
      server = row.server;
      n = row.n;
      time = row.time;
      room = row.room;
      action = OfMeeting (record { length = row.length; choices = row.choices; title = row.title });
      place = u.place;
      seq = row.seq;
    }

-- the log: each row of write_log with the row of undo that has its key; a row without one has no place in the log
abbrev pub moved_log : List WriteRow → List FirstUndoRow → List LogRow
moved_log rows us = filter_map (λ row. option_map (moved_row row) (undo_of row us)) rows

-- each row of write_log has its row in undo
abbrev pub HavePlaces : List WriteRow → List FirstUndoRow → Type 0
HavePlaces rows us = AllByRecursion (λ row. (u : FirstUndoRow) × (undo_of row us ≡ Some u)) rows

-- Booking and errorlog stay as they are, so that no row of a dropped write is lost; there is no cancel yet.
abbrev pub moved : FirstTables → Tables
moved t =
    record {
      meta = t.meta;
      room = t.room;
      vector = t.vector;
      log = moved_log t.write_log t.undo;
      booking = t.booking;
      errorlog = t.errorlog;
      cancelled = [];
      cancels = [];
    }
