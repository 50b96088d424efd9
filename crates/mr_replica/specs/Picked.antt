-- The rows that a keeper's queries pick.
use Rattle.std.specs.Prelude.{◌≡◌, Bool, true, ◌&&◌, ◌||◌, ◌==◌, nat_lt, bytes_eq, List, filter, find, Option, Some, None}
use Rattle.std.specs.List.Sorted.{IsPermutation, IsSortedBy}
use Rattle.mr_model.specs.Texts.{Text}
use Rattle.mr_model.specs.Calendar.{Date, same_date, date_before}
use Rattle.mr_model.specs.Writes.{Id, same_id}
use Rattle.mr_model.specs.Tables.{BookingRow, ErrorRow, CancelledRow, CancelRow, Tables}
use Rattle.mr_model.specs.Queries.{booking_id, error_id, cancelled_id, cancel_id}
use Rattle.mr_tables.specs.declared.place_rows.PlaceRow.{PlaceRow}
use Rattle.mr_tables.specs.declared.place_rows.PlaceRow.TheVariants.{Booked, Logged, Cancelled, Cancel}

-- a day is asked for, or all days
abbrev pub is_day_asked : Option Date → Date → Bool
is_day_asked None d = true
is_day_asked (Some day) d = same_date d day

abbrev pub picked_bookings : Text → Option Date → Tables → List BookingRow
picked_bookings room day t = filter (λ r. bytes_eq r.room room && is_day_asked day r.day) t.booking

abbrev pub picked_errors : Text → Tables → List ErrorRow
picked_errors room t = filter (λ r. bytes_eq r.room room) t.errorlog

abbrev pub picked_cancelled : Text → Tables → List CancelledRow
picked_cancelled room t = filter (λ r. bytes_eq r.room room) t.cancelled

abbrev pub picked_cancels : Text → Tables → List CancelRow
picked_cancels room t = filter (λ r. bytes_eq r.room room) t.cancels

-- by day, start, server and count
abbrev pub booking_before : BookingRow → BookingRow → Bool
booking_before a b =
    date_before a.day b.day || (same_date a.day b.day
    && (nat_lt a.start b.start || (a.start == b.start
    && (nat_lt a.server b.server || (a.server == b.server && nat_lt a.n b.n)))))

-- the picked rows, each once, in that order
abbrev pub AreBookings : Text → Option Date → Tables → List BookingRow → Type 0
AreBookings room day t rows = IsPermutation (picked_bookings room day t) rows × IsSortedBy booking_before rows

abbrev pub find_booking : Text → Id → Tables → Option BookingRow
find_booking room id t = find (λ r. same_id (booking_id r) id && bytes_eq r.room room) t.booking

abbrev pub find_error : Text → Id → Tables → Option ErrorRow
find_error room id t = find (λ r. same_id (error_id r) id && bytes_eq r.room room) t.errorlog

abbrev pub find_cancelled : Text → Id → Tables → Option CancelledRow
find_cancelled room id t = find (λ r. same_id (cancelled_id r) id && bytes_eq r.room room) t.cancelled

abbrev pub find_cancel : Text → Id → Tables → Option CancelRow
find_cancel room id t = find (λ r. same_id (cancel_id r) id && bytes_eq r.room room) t.cancels

-- The row of the write with this id, which is of that room: the first table that has one tells it.
abbrev pub IsPlaceOf : Text → Id → Tables → Option PlaceRow → Type 0
IsPlaceOf room id t None =
    (find_booking room id t ≡ None) × (find_error room id t ≡ None) × (find_cancelled room id t ≡ None) × (find_cancel room id t ≡ None)
IsPlaceOf room id t (Some (Booked row)) = find_booking room id t ≡ Some row
IsPlaceOf room id t (Some (Logged row)) = (find_booking room id t ≡ None) × (find_error room id t ≡ Some row)
IsPlaceOf room id t (Some (Cancelled row)) =
    (find_booking room id t ≡ None) × (find_error room id t ≡ None) × (find_cancelled room id t ≡ Some row)
IsPlaceOf room id t (Some (Cancel row)) =
    (find_booking room id t ≡ None) × (find_error room id t ≡ None) × (find_cancelled room id t ≡ None) × (find_cancel room id t ≡ Some row)
