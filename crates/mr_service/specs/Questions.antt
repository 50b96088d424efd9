-- What questions read on the way to their answers.
use Rattle.std.specs.Prelude.{◌≡◌, ℕ, Bool, not, ◌&&◌, ◌==◌, List, [], ◌∷◌, ◌++◌, map, filter, filter_map, bytes_eq, Option, Some, None, Result, Ok, Err, ◌⊎◌}
use Rattle.std.specs.BTreeSet.{BTreeSet}
use Rattle.std.specs.List.{list_any}
use Rattle.std.specs.Ordering.{nat_cmp, bool_cmp, ordering_then}
use Rattle.std.specs.declared.cmp.Ordering.{Ordering}
use Rattle.mr_model.specs.Texts.{Text}
use Rattle.mr_model.specs.Writes.{Id, same_id, is_room_name}
use Rattle.mr_model.specs.Refusals as model
use Rattle.mr_model.specs.Replica.{Replica}
use Rattle.mr_model.specs.Replies.{Reply, OutcomeIs, CalendarPart, Refused}
use Rattle.mr_model.specs.View.{view_of, entries, calendar_list, whole_list, told_of, outcome_reply, logging_of}
use Rattle.mr_model.specs.Queries.{LogLine, OfLogged, OfVoid, row_entry, cancel_id, line_seq, line_time, line_server, line_logging, IsRowIn, row_id, row_room}
use Rattle.mr_model.specs.Step.{IsOfMachine}
use Rattle.mr_model.specs.Tables.{BookingRow, ErrorRow, CancelledRow, CancelRow, PlaceRow, Tables, as_booked, Stands}
use Rattle.mr_base.specs.declared.refusals.Refusal.{Refusal}
use Rattle.mr_base.specs.RefusalViews.{refusal_of}
use Rattle.mr_part.specs.Sets.{has_id}
use Rattle.mr_tables.specs.declared.place_rows.PlaceRow as code
use Rattle.mr_tables.specs.declared.place_rows.PlaceRow.TheVariants as place
use Rattle.mr_service.specs.Asked.{log_line_seen, outcome_seen}
use Rattle.mr_service.specs.declared.replies.LogLine as replies
use Rattle.mr_service.specs.declared.replies.Outcome.{Outcome}

-- what is at fault with the name of a room, where these rooms are known
abbrev pub room_fault : List Text → Text → Option model.Refusal
room_fault rooms room =
    model.first_refusal ((not (is_room_name room), model.BadRoomName) ∷ (not (list_any (bytes_eq room) rooms), model.UnknownRoom) ∷ [])

-- the room of this name, if nothing is at fault with it; else the refusal, or that memory or the store failed
abbrev pub FindsRoom : List Text → Text → Result Text Refusal → Type 0
FindsRoom rooms room (Ok found) = (found ≡ room) × (room_fault rooms room ≡ None)
FindsRoom rooms room (Err e) = (room_fault rooms room ≡ Some (refusal_of e)) ⊎ IsOfMachine (Refused (refusal_of e))

-- ---- calendars

-- for each replica that the tables stand for, the rows are those of this calendar of the room
abbrev pub ShowsCalendar : CalendarPart → Text → Tables → List BookingRow → Type 0
ShowsCalendar part room t rows = (a : Replica) → Stands t a → entries (calendar_list part (view_of a room)) ≡ map row_entry rows

-- a cancel with this id is among these, and is not committed
abbrev pub is_tentative_cancel : Id → CancelRow → Bool
is_tentative_cancel id c = same_id (cancel_id c) id && (c.seq == 0)

abbrev pub has_tentative : Id → List CancelRow → Bool
has_tentative id cancels = list_any (is_tentative_cancel id) cancels

-- a committed booking that a cancel of this set took back
abbrev pub is_back : BTreeSet Id → CancelledRow → Bool
is_back tentative row = row.committed && has_id tentative row.by

-- the rows of a room's committed calendar, of all its bookings, those that were taken back, and its cancels
abbrev pub committed_rows : List BookingRow → List CancelledRow → List CancelRow → List BookingRow
committed_rows bookings cancelled cancels =
    filter (λ row. row.committed) bookings
    ++ map as_booked (filter (λ row. row.committed && has_tentative row.by cancels) cancelled)

-- ---- outcomes

-- the outcome that is replied; or memory or the store failed
abbrev pub IsOutcome : Reply → Result Outcome Refusal → Type 0
IsOutcome reply (Ok o) = reply ≡ OutcomeIs (outcome_seen o)
IsOutcome reply (Err e) = IsOfMachine (Refused (refusal_of e))

-- for each replica that the tables stand for, of which this is the row of a write of the room: what became of that write
abbrev pub TellsOutcomeOf : Text → Tables → PlaceRow → Result Outcome Refusal → Type 0
TellsOutcomeOf room t p result =
    (a : Replica) → Stands t a → IsRowIn t p → row_room p ≡ room
    → IsOutcome (outcome_reply (told_of (row_id p) (whole_list (view_of a room)))) result

-- the row, if it is that of a cancel
abbrev pub row_of_cancel : Option code.PlaceRow → Option CancelRow
row_of_cancel None = None
row_of_cancel (Some (place.Booked row)) = None
row_of_cancel (Some (place.Logged row)) = None
row_of_cancel (Some (place.Cancelled row)) = None
row_of_cancel (Some (place.Cancel row)) = Some row

-- ---- error logs

-- the lines of a room's error log, of its error rows and all its cancels
abbrev pub lines_of : List ErrorRow → List CancelRow → List LogLine
lines_of requests cancels = map (λ row. OfLogged row) requests ++ map (λ row. OfVoid row) (filter (λ row. not row.done) cancels)

-- for each replica that the tables stand for, these are the lines of the room's error log
abbrev pub ShowsLines : Text → Tables → List LogLine → Type 0
ShowsLines room t lines = (a : Replica) → Stands t a → filter_map logging_of (whole_list (view_of a room)) ≡ map line_logging lines

-- lines come by these keys: committed ones first, by their number; then the others, by time and server
abbrev pub LogKey : Type 0
LogKey = Bool × ℕ × ℕ × ℕ

abbrev pub log_line_key : LogLine → LogKey
log_line_key l = (line_seq l == 0, line_seq l, line_time l, line_server l)

abbrev pub line_key : replies.LogLine → LogKey
line_key line = log_line_key (log_line_seen line)

-- by the first part that differs, false before true
abbrev pub log_key_cmp : LogKey → LogKey → Ordering
log_key_cmp a b = ordering_then (ordering_then (ordering_then (bool_cmp a.0 b.0) (nat_cmp a.1 b.1)) (nat_cmp a.2 b.2)) (nat_cmp a.3 b.3)
