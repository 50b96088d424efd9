-- What commands put and take away.
use Rattle.std.specs.Prelude.{ℕ, Bool, ◌&&◌, if◌then◌else◌, ◌==◌, List, [], ◌∷◌, ◌++◌, flat_map, filter_map, Option, Some, None}
use Rattle.mr_model.specs.Texts.{Text, numbers_on}
use Rattle.mr_model.specs.Writes.{Id, Write}
use Rattle.mr_model.specs.Tables.{MetaRow, VectorRow, LogRow, PlaceRow, Booked, Erred, Cancelled, Cancel, as_booking, as_error, as_cancelled, as_cancel}
use Rattle.mr_model.specs.Queries.{booking_id, error_id, cancelled_id}
use Rattle.mr_replay.specs.Places.{UndoRow}
use Rattle.mr_tables.specs.declared.summary.Tally.{Tally}
use Rattle.mr_tables.specs.declared.summary.Summary.{Summary}
use Rattle.mr_tables.specs.Summary.{tally_at}
use Rattle.mr_tables.specs.Change.{ChangeView}
use Rattle.mr_tables.specs.ExecutionRows.{log_row_on, place_row_on, log_rows, place_rows}
use Rattle.mr_tables.specs.Tallied.{tally_rows}

abbrev pub meta_of : Summary → MetaRow
meta_of s = record { server = s.server; primary = s.primary; commits = s.commits; dropped = s.dropped; clock = s.clock }

abbrev pub same_tally : Tally → Tally → Bool
same_tally a b = a.count == b.count && a.last_time == b.last_time && a.committed == b.committed

-- the row of a server whose tally is another one now
abbrev pub changed_tally : List Tally → List Tally → ℕ → List VectorRow
changed_tally old new s = if same_tally (tally_at old s) (tally_at new s) then [] else tally_rows new s

abbrev pub changed_tallies : List Tally → List Tally → List VectorRow
changed_tallies old new = flat_map (changed_tally old new) (numbers_on 1 99)

-- ---- the tables that the row of a booking isn't in

-- the id that leaves booking where this row is put
abbrev pub not_booked : PlaceRow → Option Id
not_booked (Booked row) = None
not_booked (Erred row) = Some (error_id row)
not_booked (Cancelled row) = Some (cancelled_id row)
not_booked (Cancel row) = None

-- and errorlog
abbrev pub not_erred : PlaceRow → Option Id
not_erred (Booked row) = Some (booking_id row)
not_erred (Erred row) = None
not_erred (Cancelled row) = Some (cancelled_id row)
not_erred (Cancel row) = None

-- and cancelled
abbrev pub not_cancelled : PlaceRow → Option Id
not_cancelled (Booked row) = Some (booking_id row)
not_cancelled (Erred row) = Some (error_id row)
not_cancelled (Cancelled row) = None
not_cancelled (Cancel row) = None

-- ---- changes

-- These rows of the log are put, and each of these rows of places into its table; that of a booking is taken away from the two
-- other tables of bookings.
abbrev pub with_places : MetaRow → List Text → List VectorRow → List LogRow → List PlaceRow → ChangeView
with_places meta rooms vector log places =
    record {
      meta = meta;
      room = rooms;
      vector = vector;
      dropped = [];
      log = log;
      unbooked = filter_map not_booked places;
      booking = filter_map as_booking places;
      unlogged = filter_map not_erred places;
      errorlog = filter_map as_error places;
      uncancelled = filter_map not_cancelled places;
      cancelled = filter_map as_cancelled places;
      cancels = filter_map as_cancel places;
    }

-- Some writes that follow each other in the order, the k-th and those behind it, get their rows, with what undoes them, and the
-- cancels that took them back.
abbrev pub written : MetaRow → List Text → List VectorRow → ℕ → ℕ → List Write → List UndoRow → List (Option Id) → ChangeView
written meta rooms vector commits k ws us bys =
    with_places meta rooms vector (log_rows commits k ws us) (place_rows commits k ws us bys)

-- The rows of these ids leave the log.
abbrev pub forgotten : MetaRow → List Id → ChangeView
forgotten meta ids = record (with_places meta [] [] [] []) { dropped = ids }

-- ---- row by row

abbrev pub with_log_row : ChangeView → LogRow → ChangeView
with_log_row c row = record c { log = c.log ++ row ∷ [] }

abbrev pub with_place : ChangeView → PlaceRow → ChangeView
with_place c (Booked row) =
    record c {
      booking = c.booking ++ row ∷ [];
      unlogged = c.unlogged ++ booking_id row ∷ [];
      uncancelled = c.uncancelled ++ booking_id row ∷ [];
    }
with_place c (Erred row) =
    record c {
      unbooked = c.unbooked ++ error_id row ∷ [];
      errorlog = c.errorlog ++ row ∷ [];
      uncancelled = c.uncancelled ++ error_id row ∷ [];
    }
with_place c (Cancelled row) =
    record c {
      unbooked = c.unbooked ++ cancelled_id row ∷ [];
      unlogged = c.unlogged ++ cancelled_id row ∷ [];
      cancelled = c.cancelled ++ row ∷ [];
    }
with_place c (Cancel row) = record c { cancels = c.cancels ++ row ∷ [] }

-- the rows of one write more, the k-th of the order
abbrev pub with_write_rows : ChangeView → ℕ → ℕ → Write → UndoRow → Option Id → ChangeView
with_write_rows c commits k w u by = with_place (with_log_row c (log_row_on commits k w u)) (place_row_on commits k w u by)
