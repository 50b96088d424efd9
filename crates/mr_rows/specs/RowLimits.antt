-- The limits of plain rows: a row within them can be read as one of its type.
use Rattle.std.specs.Prelude.{ℕ, zero, suc, ◌+◌, ◌^◌, Bool, true, false, not, ◌&&◌, ◌||◌, ◌==◌, nat_le, nat_lt, length, take, drop, slice_index, bytes_eq}
use Rattle.std.specs.Str.{is_utf8}
use Rattle.mr_model.specs.Texts.{Text, within}
use Rattle.mr_model.specs.Calendar.{Date, is_date, date_text, date_in, time_text, time_in}
use Rattle.mr_model.specs.Writes.{is_server, is_count, is_time, is_id, is_room_name, is_title, is_length, greatest_alternatives, greatest_count, greatest_time}
use Rattle.mr_model.specs.Replay.{Place, Taken, Logged, Done, Void}
use Rattle.mr_model.specs.Tables.{MetaRow, VectorRow, MeetingCells, ActionCells, OfMeeting, OfCancel, LogRow, BookingRow, ErrorRow, CancelledRow, as_booked, CancelRow}
use Rattle.mr_tables.specs.Cells.{is_cancel_cells}

-- a number of 32 bits
abbrev pub is_small : ℕ → Bool
is_small n = nat_lt n (2 ^ 32)

-- the number of a commit, or how many there are; 0 if there is none
abbrev pub is_commit : ℕ → Bool
is_commit n = within 0 999_999_999_999 n

abbrev pub is_meta_row : MetaRow → Bool
is_meta_row m = is_server m.server && is_server m.primary && is_commit m.commits && is_commit m.dropped && within 0 greatest_time m.clock

abbrev pub is_vector_row : VectorRow → Bool
is_vector_row v = is_server v.server && is_count v.count && is_time v.last_time && within 0 greatest_count v.committed

-- ---- a write: its action and its place

-- a text that is a day's, and one of a minute from which so many are left on its day
abbrev pub is_day_text : Text → Bool
is_day_text t = is_date (date_in t) && bytes_eq (date_text (date_in t)) t

abbrev pub is_start_text : ℕ → Text → Bool
is_start_text n t = nat_lt (time_in t) 1440 && bytes_eq (time_text (time_in t)) t && nat_le (time_in t + n) 1440

-- a slot of this length, which ends on its day, stands in front
abbrev pub begins_with_slot : ℕ → Text → Bool
begins_with_slot n t = is_day_text (take 10 t) && slice_index t 10 == 32 && is_start_text n (take 5 (drop 11 t))

-- such slots, so many at most, with a space between each two
unfoldable pub are_choices : ℕ → ℕ → Text → Bool
are_choices zero n t = false
are_choices (suc most) n t = begins_with_slot n t && (nat_le (length t) 16 || (slice_index t 16 == 32 && are_choices most n (drop 17 t)))

-- the wish and its alternatives
abbrev pub is_choices : ℕ → Text → Bool
is_choices n t = is_utf8 t && are_choices 17 n t

abbrev pub is_meeting_cells : MeetingCells → Bool
is_meeting_cells m = is_length m.length && is_choices m.length m.choices && is_title m.title

abbrev pub is_action_cells : ActionCells → Bool
is_action_cells (OfMeeting m) = is_meeting_cells m
is_action_cells (OfCancel target) = is_id target

-- a choice is one that a booking can have
abbrev pub is_place : Place → Bool
is_place (Taken k) = nat_le k greatest_alternatives
is_place Logged = true
is_place Done = true
is_place Void = true

-- a cancel is done or void, a booking has a choice or is in the error log
abbrev pub is_place_of : Bool → Place → Bool
is_place_of cancels (Taken k) = not cancels && is_place (Taken k)
is_place_of cancels Logged = not cancels
is_place_of cancels Done = cancels
is_place_of cancels Void = cancels

abbrev pub is_log_row : LogRow → Bool
is_log_row w =
    is_server w.server && is_count w.n && is_time w.time && is_room_name w.room && is_action_cells w.action
    && is_place_of (is_cancel_cells w.action) w.place && is_commit w.seq

-- ---- what became of it

-- what rows of `booking`, `errorlog` and `cancelled` begin with: a slot ends behind its start, by midnight of its day
abbrev pub is_slot_row : Text → Date → ℕ → ℕ → ℕ → ℕ → Text → Bool
is_slot_row room day start stop server n title =
    is_room_name room && is_date day && within 0 1439 start && within (start + 1) 1440 stop && is_server server && is_count n && is_title title

abbrev pub is_booking_row : BookingRow → Bool
is_booking_row b = is_slot_row b.room b.day b.start b.stop b.server b.n b.title

abbrev pub is_error_row : ErrorRow → Bool
is_error_row e = is_slot_row e.room e.day e.start e.stop e.server e.n e.title && is_time e.time && is_commit e.seq

abbrev pub is_cancelled_row : CancelledRow → Bool
is_cancelled_row c = is_booking_row (as_booked c) && is_id c.by

abbrev pub is_cancel_row : CancelRow → Bool
is_cancel_row c = is_server c.server && is_count c.n && is_room_name c.room && is_id c.target && is_time c.time && is_commit c.seq
