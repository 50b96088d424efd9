-- What is listed of bookings by room and day.
use Rattle.std.specs.Prelude.{Bool, ◌&&◌, bytes_eq, List, filter, Option}
use Rattle.std.specs.List.Sorted.{IsPermutation, IsSortedBy}
use Rattle.mr_model.specs.Calendar.{Date}
use Rattle.mr_model.specs.Tables.{BookingRow}
use Rattle.mr_model.specs.Texts.{Text}
use Rattle.mr_replica.specs.Picked.{is_day_asked, booking_before}

-- what is asked for
abbrev pub is_asked : Text → Option Date → BookingRow → Bool
is_asked room day row = bytes_eq row.room room && is_day_asked day row.day

-- the rows that are asked for, in the order of a calendar
abbrev pub AreListed : Text → Option Date → List BookingRow → List BookingRow → Type 0
AreListed room day all rows = IsPermutation (filter (is_asked room day) all) rows × IsSortedBy booking_before rows
