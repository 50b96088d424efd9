-- A board made of the rows of booking, errorlog, cancelled and cancels.
use Rattle.std.specs.Prelude.{ℕ, ◌-◌, ◌<◌, ◌≤◌, Bool, not, List, [], ◌∷◌, map, filter, IsTrue}
use Rattle.std.specs.List.{AllByRecursion}
use Rattle.std.specs.BTreeMap.{insert_entry}
use Rattle.mr_model.specs.Writes.{Id, is_count}
use Rattle.mr_model.specs.Tables.{BookingRow, ErrorRow, CancelledRow, CancelRow, Tables}
use Rattle.mr_model.specs.Queries.{booking_id, error_id, cancelled_id, cancel_id}
use Rattle.mr_base.specs.Ids.{id_cmp}
use Rattle.mr_replay.specs.declared.rows.Standing.TheVariants.{Booked, CancelledBy, InErrorLog}
use Rattle.mr_replay.specs.declared.rows.Trace.TheVariants.{OfBooking, OfCancel}
use Rattle.mr_replay.specs.declared.rows.Row.{Row}
use Rattle.mr_replay.specs.Rows.{Rows}

-- the row of the board that a row of booking tells
abbrev pub booking_entry : BookingRow → Id × Row
booking_entry r =
    (booking_id r, record { room = r.room; trace = OfBooking (record { day = r.day; start = r.start }) (r.stop - r.start) r.title Booked })

-- one of errorlog
abbrev pub error_entry : ErrorRow → Id × Row
error_entry r =
    (error_id r, record { room = r.room; trace = OfBooking (record { day = r.day; start = r.start }) (r.stop - r.start) r.title InErrorLog })

-- one of cancelled
abbrev pub cancelled_entry : CancelledRow → Id × Row
cancelled_entry r =
    (cancelled_id r, record { room = r.room; trace = OfBooking (record { day = r.day; start = r.start }) (r.stop - r.start) r.title (CancelledBy r.by) })

-- and one of cancels, where the cancel found nothing to take back; one that is done stands in its target's row
abbrev pub is_void : CancelRow → Bool
is_void r = not r.done

abbrev pub cancel_entry : CancelRow → Id × Row
cancel_entry r = (cancel_id r, record { room = r.room; trace = OfCancel r.target })

-- these rows put on a board, one after the other
abbrev pub put_entries : List (Id × Row) → Rows → Rows
put_entries [] b = b
put_entries (e ∷ es) b = put_entries es (insert_entry id_cmp b e.0 e.1)

-- all rows of the tables
abbrev pub board_of : Tables → Rows
board_of t =
    put_entries (map cancel_entry (filter is_void t.cancels))
    (put_entries (map cancelled_entry t.cancelled) (put_entries (map error_entry t.errorlog) (put_entries (map booking_entry t.booking) [])))

-- ---- limits

-- a count within the limits, and minutes of a day that the start comes before the stop in, the day's end at the latest
abbrev pub IsRowWithin : ℕ → ℕ → ℕ → Type 0
IsRowWithin n start stop = IsTrue (is_count n) × (start < stop) × (stop ≤ 1440)

pub record AreWithin (t : Tables) : Type 0 where
  pub booking : AllByRecursion (λ r. IsRowWithin r.n r.start r.stop) t.booking
  pub errorlog : AllByRecursion (λ r. IsRowWithin r.n r.start r.stop) t.errorlog
  pub cancelled : AllByRecursion (λ r. IsRowWithin r.n r.start r.stop) t.cancelled
