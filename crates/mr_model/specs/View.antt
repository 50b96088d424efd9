-- What a replica knows of one room, and the answers to questions about it.
use Rattle.std.specs.Prelude.{◌+◌, Bool, true, false, not, ◌&&◌, ◌||◌, if◌then◌else◌, nat_lt, List, [], ◌∷◌, ◌++◌, length}
use Rattle.std.specs.Prelude.{drop, bytes_eq, Option, Some, None, option_map, is_none, filter, filter_map, find}
use Rattle.mr_model.specs.Texts.{Text}
use Rattle.mr_model.specs.Calendar.{Date, date_in, read_date, same_date, date_before}
use Rattle.mr_model.specs.Slots.{Slot}
use Rattle.mr_model.specs.Writes.{Id, Action, Books, Cancels, Write, id_of, same_id, length_of, title_of, id_in, is_id_text, is_room_name}
use Rattle.mr_model.specs.Refusals.{Refusal, BadDay, BadRoomName, UnknownRoom, NoSuchRequest, first_refusal}
use Rattle.mr_model.specs.Replay.{Place, Logged, Done, Void, Booking, replay, slot_at, booking_of}
use Rattle.mr_model.specs.Replica.{Replica, committed, tentative, knows_room}
use Rattle.mr_model.specs.Replies.{Entry, Logging, RequestLogged, CancelLogged, Outcome, Booked, NotBooked, Cancelled, CancelDone}
use Rattle.mr_model.specs.Replies.{CancelVoid, CalendarPart, Full, Committed, Reply, Calendar, Sheet, OutcomeIs, Errors, Refused}

-- whether the room is known, its committed writes in commit order, and the set of its others, in stamp order
pub record View : Type 0 where
  pub known : Bool
  pub committed : List Write
  pub tentative : List Write

abbrev pub of_room : Text → List Write → List Write
of_room room ws = filter (λ w. bytes_eq w.room room) ws

abbrev pub view_of : Replica → Text → View
view_of r room =
    record { known = knows_room r room; committed = of_room room (committed r); tentative = of_room room (tentative r) }

-- ---- what a view tells

-- a write with its mark and its place
pub record Placed : Type 0 where
  pub write : Write
  pub is_committed : Bool
  pub place : Place

abbrev pub placed_with : Bool → List Write → List Place → List Placed
placed_with mark [] places = []
placed_with mark (w ∷ ws) [] = []
placed_with mark (w ∷ ws) (p ∷ places) = record { write = w; is_committed = mark; place = p } ∷ placed_with mark ws places

-- the committed writes first, then the others, each at the place that the replay of all gives it
abbrev pub whole_places : View → List Placed
whole_places v =
    let places = replay (v.committed ++ v.tentative) in
    placed_with true v.committed places ++ placed_with false v.tentative (drop (length v.committed) places)

-- the committed writes alone, at the places that their own replay gives them
abbrev pub committed_places : View → List Placed
committed_places v = placed_with true v.committed (replay v.committed)

-- and with the cancel behind it that took it back, if one did: without one a booking that was made stands at the end
pub record Told : Type 0 where
  pub write : Write
  pub is_committed : Bool
  pub place : Place
  pub cancelled_by : Option Placed

abbrev pub placed_of : Told → Placed
placed_of t = record { write = t.write; is_committed = t.is_committed; place = t.place }

-- a cancel of this id that is Done
abbrev pub cancels_it : Id → Action → Place → Bool
cancels_it id (Cancels target) Done = same_id id target
cancels_it id _ _ = false

abbrev pub cancel_of : Id → List Placed → Option Placed
cancel_of id ps = find (λ p. cancels_it id p.write.action p.place) ps

abbrev pub tell : List Placed → List Told
tell [] = []
tell (p ∷ ps) =
    record {
      write = p.write;
      is_committed = p.is_committed;
      place = p.place;
      cancelled_by = cancel_of (id_of p.write) ps;
    }
    ∷ tell ps

-- all writes of the view, with the cancels among all of them
abbrev pub whole_list : View → List Told
whole_list v = tell (whole_places v)

-- the committed ones alone, with the cancels among these
abbrev pub committed_list : View → List Told
committed_list v = tell (committed_places v)

-- the booking that is told of as standing
abbrev pub booking_unless : Option Placed → Write → Place → List Booking
booking_unless (Some cancel) w p = []
booking_unless None w p = booking_of w (slot_at w p)

abbrev pub booked_told : Told → List Booking
booked_told t = booking_unless t.cancelled_by t.write t.place

-- ---- the place of a write

abbrev pub placed_in : Id → List Placed → Option Placed
placed_in id ps = find (λ p. same_id (id_of p.write) id) ps

-- that of a write that is not known is of no use
abbrev pub place_or_logged : Option Placed → Place
place_or_logged None = Logged
place_or_logged (Some p) = p.place

-- the place of a write in the replay of its room, dropped writes counted in
abbrev pub place_of : Replica → Write → Place
place_of r w = place_or_logged (placed_in (id_of w) (whole_places (view_of r w.room)))

-- ---- entries

-- the entry of a write that took the slot
abbrev pub entry_with : Told → Option Slot → Option Entry
entry_with t None = None
entry_with t (Some s) =
    Some (record {
      day = s.day;
      start = s.start;
      stop = s.start + length_of t.write;
      is_committed = t.is_committed;
      id = id_of t.write;
      title = title_of t.write;
    })

-- the entry of a booking that stands
abbrev pub entry_unless : Option Placed → Told → Option Entry
entry_unless (Some cancel) t = None
entry_unless None t = entry_with t (slot_at t.write t.place)

abbrev pub entry_of : Told → Option Entry
entry_of t = entry_unless t.cancelled_by t

abbrev pub entry_before : Entry → Entry → Bool
entry_before a b = date_before a.day b.day || (same_date a.day b.day && nat_lt a.start b.start)

abbrev pub put_entry : Entry → List Entry → List Entry
put_entry e [] = e ∷ []
put_entry e (x ∷ xs) = if entry_before e x then e ∷ x ∷ xs else x ∷ put_entry e xs

-- by rising day and start; no two bookings of a room begin together
abbrev pub by_start : List Entry → List Entry
by_start [] = []
by_start (e ∷ es) = put_entry e (by_start es)

abbrev pub entries : List Told → List Entry
entries ts = by_start (filter_map entry_of ts)

abbrev pub entries_of_day : Date → List Told → List Entry
entries_of_day day ts = filter (λ e. same_date e.day day) (entries ts)

-- a booking that found no free slot, and a cancel that found nothing to take back
abbrev pub logging_with : Told → Action → Place → Option Logging
logging_with t (Books m) Logged =
    Some (RequestLogged (record {
      is_committed = t.is_committed;
      id = id_of t.write;
      day = m.wish.day;
      start = m.wish.start;
      stop = m.wish.start + m.length;
      title = m.title;
    }))
logging_with t (Cancels target) Void = Some (CancelLogged t.is_committed (id_of t.write) target)
logging_with t _ _ = None

abbrev pub logging_of : Told → Option Logging
logging_of t = logging_with t t.write.action t.place

abbrev pub outcome_with : Told → Option Entry → Outcome
outcome_with t None = NotBooked (id_of t.write) t.is_committed
outcome_with t (Some e) = Booked e.id e.is_committed e.day e.start e.stop

abbrev pub booking_outcome : Told → Option Placed → Outcome
booking_outcome t (Some cancel) = Cancelled (id_of t.write) t.is_committed cancel.is_committed (id_of cancel.write)
booking_outcome t None = outcome_with t (entry_of t)

abbrev pub cancel_outcome_at : Told → Id → Place → Outcome
cancel_outcome_at t target Done = CancelDone (id_of t.write) t.is_committed target
cancel_outcome_at t target _ = CancelVoid (id_of t.write) t.is_committed target

abbrev pub outcome_for : Told → Action → Outcome
outcome_for t (Books m) = booking_outcome t t.cancelled_by
outcome_for t (Cancels target) = cancel_outcome_at t target t.place

abbrev pub outcome_of : Told → Outcome
outcome_of t = outcome_for t t.write.action

abbrev pub told_of : Id → List Told → Option Told
told_of id ts = find (λ t. same_id (id_of t.write) id) ts

-- the cancel that took a write's booking back, if one did
abbrev pub canceller_in : Option Told → Option Id
canceller_in None = None
canceller_in (Some t) = option_map (λ c. id_of c.write) t.cancelled_by

abbrev pub canceller_of : Replica → Write → Option Id
canceller_of r w = canceller_in (told_of (id_of w) (whole_list (view_of r w.room)))

-- ---- questions and answers

-- a question about a room, in the words of who asks
pub data Question : Type 0 where
  AskSheet : (day : Text) → Question
  AskCalendar : (part : CalendarPart) → Question
  AskOutcome : (id : Text) → Question
  AskErrors : Question

abbrev pub unless : Option Refusal → Reply → Reply
unless (Some e) reply = Refused e
unless None reply = reply

abbrev pub calendar_list : CalendarPart → View → List Told
calendar_list Full v = whole_list v
calendar_list Committed v = committed_list v

-- the reply that tells of this write, if there is one
abbrev pub outcome_reply : Option Told → Reply
outcome_reply None = Refused NoSuchRequest
outcome_reply (Some t) = OutcomeIs (outcome_of t)

abbrev pub find_request : Text → View → Option Told
find_request id v = if is_id_text id then told_of (id_in id) (whole_list v) else None

-- the answer about the room of this name
abbrev pub answer : Text → View → Question → Reply
answer room v (AskSheet day) =
    unless (first_refusal ((is_none (read_date day), BadDay) ∷ (not (is_room_name room), BadRoomName) ∷ (not v.known, UnknownRoom) ∷ []))
    (Sheet room (date_in day) (entries_of_day (date_in day) (whole_list v)))
answer room v (AskCalendar part) =
    unless (first_refusal ((not (is_room_name room), BadRoomName) ∷ (not v.known, UnknownRoom) ∷ []))
    (Calendar room part (entries (calendar_list part v)))
answer room v (AskOutcome id) =
    unless (first_refusal ((not (is_room_name room), BadRoomName) ∷ (not v.known, UnknownRoom) ∷ []))
    (outcome_reply (find_request id v))
answer room v AskErrors =
    unless (first_refusal ((not (is_room_name room), BadRoomName) ∷ (not v.known, UnknownRoom) ∷ []))
    (Errors room (filter_map logging_of (whole_list v)))
