-- From what a question reads of a keeper to its step, for every replica that the keeper's tables stand for.
use Rattle.std.proofs.Common.{◌≡◌, refl, sym, ap, ◌∙◌, subst, Bool, true, false, not, cond, ◌&&◌, List, [], ◌∷◌, map, ◌⊎◌, inl, inr, Option, Some, None, Result, Ok, Err}
use Rattle.std.proofs.lemmas.List.Sorted.{list_any-IsPermutation}
use Rattle.std.specs.Prelude.{◌==◌, is_none, ok_or}
use Rattle.std.specs.List.{filter_map, list_any}
use Rattle.std.specs.List.Sorted.{IsPermutation, IsSortedBy, IsSortedByKey}
use Rattle.std.specs.Str.{bytes_eq}
use Rattle.mr_model.specs.Texts.{Text, only_if}
use Rattle.mr_model.specs.Calendar.{Date, is_date, date_in, date_text, read_date}
use Rattle.mr_model.specs.Writes.{Id, is_room_name, id_in, is_id_text, greatest_time, greatest_count}
use Rattle.mr_model.specs.Refusals as model
use Rattle.mr_model.specs.Replica.{Replica, IsReplica, knows_room, clock_of, count_of}
use Rattle.mr_model.specs.Replies.{CalendarPart, Full, Committed, Reply, Calendar, Sheet, OutcomeIs, Errors, Refused}
use Rattle.mr_model.specs.View.{View, view_of, whole_list, calendar_list, entries, entries_of_day, logging_of, find_request}
use Rattle.mr_model.specs.View.{outcome_reply, told_of, Question, AskSheet, AskCalendar, AskOutcome, AskErrors, unless, answer}
use Rattle.mr_model.specs.Step.{After, Ask, Cancel, Command, IsOfMachine, no_memory, refuse, step_unless, after_write, cancel, cancel_write, knows_booking}
use Rattle.mr_model.specs.Serving.{TakesStep}
use Rattle.mr_model.specs.Tables.{BookingRow, ErrorRow, CancelledRow, CancelRow, PlaceRow, Tables, Stands, tables_of}
use Rattle.mr_model.specs.Tables as rows
use Rattle.mr_model.specs.Queries.{LogLine, row_entry, line_logging, booked_outcome, logged_outcome, cancelled_outcome, cancel_outcome, IsRowIn}
use Rattle.mr_model.proofs.RowsTell.{booked_tell, erred_tell, cancel_tell}
use Rattle.mr_model.proofs.UniqueReplay.{some_inj, none_some}
use Rattle.mr_base.specs.Answers.{ok_if}
use Rattle.mr_base.specs.Readings.{read_id}
use Rattle.mr_base.specs.RefusalViews.{refusal_of}
use Rattle.mr_base.specs.declared.refusals.Refusal.{Refusal}
use Rattle.mr_base.specs.declared.refusals.Refusal.TheVariants as refusal
use Rattle.mr_tables.specs.declared.place_rows.PlaceRow as code
use Rattle.mr_tables.specs.Cells.{place_row_of}
use Rattle.mr_store.specs.Picked.{picked_bookings, picked_errors, picked_cancelled, picked_cancels, booking_before, AreBookings, IsPlaceOf}
use Rattle.mr_service.specs.Asked.{log_line_seen, outcome_seen}
use Rattle.mr_service.specs.declared.replies.LogLine as replies
use Rattle.mr_service.specs.declared.replies.Outcome.{Outcome}
use Rattle.mr_service.specs.Questions.{room_fault, FindsRoom, ShowsCalendar, ShowsLines, TellsOutcomeOf, committed_rows, row_of_cancel, lines_of, line_key, log_key_cmp}
use Rattle.mr_service.specs.Served.{IsRefusedAnywhere}
pub use Rattle.mr_service.proofs.DeskSteps.{of_fault, fault_step}
use Rattle.mr_service.proofs.KeeperReads.{anywhere}
use Rattle.mr_service.proofs.RoomRows.{calendar_rows, committed_calendar_rows, sheet_rows}
use Rattle.mr_service.proofs.RoomLog.{log_rows, place_found, cancel_found, no_place_told}

-- ---- rooms

-- a name that is read, or refused
pub name_refused : (rooms : List Text) (room : Text) (e : Refusal) → (ok_if (is_room_name room) room refusal.BadRoomName ≡ Err e) ⊎ (e ≡ refusal.OutOfMemory) → FindsRoom rooms room (Err e)
name_refused rooms room e (inr memory) = inr (subst (λ x. IsOfMachine (Refused (refusal_of x))) (sym memory) no_memory)
name_refused rooms room e (inl bad) = inl (go (is_room_name room) refl bad)
  where
    go : (b : Bool) → is_room_name room ≡ b → ok_if b room refusal.BadRoomName ≡ Err e → room_fault rooms room ≡ Some (refusal_of e)
    go true t f = absurd (let never : ◌≡◌ {A = Result Text Refusal} (Ok room) (Err e) = f in cc)
    go false t f = let same : refusal.BadRoomName ≡ e = (let g : ◌≡◌ {A = Result Text Refusal} (Err refusal.BadRoomName) (Err e) = f in cc) in rw t (ap (λ x. Some (refusal_of x)) same)

-- a name that is read is the text, and a room's
name_read : (room found : Text) → ok_if (is_room_name room) room refusal.BadRoomName ≡ Ok found → (is_room_name room ≡ true) × (found ≡ room)
name_read room found e = go (is_room_name room) refl e
  where
    go : (b : Bool) → is_room_name room ≡ b → ok_if b room refusal.BadRoomName ≡ Ok found → (is_room_name room ≡ true) × (found ≡ room)
    go true t f = (t, let same : ◌≡◌ {A = Result Text Refusal} (Ok room) (Ok found) = f in cc)
    go false t f = absurd (let never : ◌≡◌ {A = Result Text Refusal} (Err refusal.BadRoomName) (Ok found) = f in cc)

-- the room is known just where it is among those that the keeper gives, in any order
fault_known : (rooms given : List Text) (room found : Text) (b : Bool) → ok_if (is_room_name room) room refusal.BadRoomName ≡ Ok found → IsPermutation rooms given → b ≡ list_any (bytes_eq found) given
    → room_fault rooms room ≡ model.first_refusal ((not b, model.UnknownRoom) ∷ [])
fault_known rooms given room found b read moved is =
    let p = name_read room found read in
    let among : list_any (bytes_eq room) rooms ≡ b = list_any-IsPermutation (bytes_eq room) rooms given moved ∙ ap (λ x. list_any (bytes_eq x) given) (sym p.1) ∙ sym is in
    rw (p.0, among) refl

-- so a name that is read is found, or is of no known room
pub room_found : (rooms given : List Text) (room found : Text) (b : Bool) → ok_if (is_room_name room) room refusal.BadRoomName ≡ Ok found
    → IsPermutation rooms given → b ≡ list_any (bytes_eq found) given → b ≡ true → FindsRoom rooms room (Ok found)
room_found rooms given room found b read moved is known =
    ((name_read room found read).1, subst (λ x. room_fault rooms room ≡ model.first_refusal ((not x, model.UnknownRoom) ∷ [])) known (fault_known rooms given room found b read moved is))

pub room_unknown : (rooms given : List Text) (room found : Text) (b : Bool) → ok_if (is_room_name room) room refusal.BadRoomName ≡ Ok found
    → IsPermutation rooms given → b ≡ list_any (bytes_eq found) given → b ≡ false → FindsRoom rooms room (Err refusal.UnknownRoom)
room_unknown rooms given room found b read moved is unknown =
    inl (subst (λ x. room_fault rooms room ≡ model.first_refusal ((not x, model.UnknownRoom) ∷ [])) unknown (fault_known rooms given room found b read moved is))

-- ---- answers

-- with no fault of the room's, the question is answered so
abbrev AsksOfRoom : Text → Question → (View → Reply) → Type 0
AsksOfRoom room q told =
    (v : View) → answer room v q ≡ unless (model.first_refusal ((not (is_room_name room), model.BadRoomName) ∷ (not v.known, model.UnknownRoom) ∷ [])) (told v)

-- the answer at one replica, by what is at fault with the room
answer_at : (t : Tables) (a : Replica) (room : Text) (q : Question) (told : View → Reply) (fault : Option model.Refusal) → AsksOfRoom room q told
    → room_fault t.room room ≡ fault → t ≡ tables_of a → answer room (view_of a room) q ≡ unless fault (told (view_of a room))
answer_at t a room q told fault asks is are =
    asks (view_of a room) ∙ ap (λ o. unless o (told (view_of a room))) (ap (λ (x : Tables). room_fault x.room room) (sym are) ∙ is)

-- a question about a known room is answered
answered : (t u : Tables) (room found : Text) (q : Question) (told : View → Reply) (reply : Reply) → AsksOfRoom room q told → u ≡ t
    → FindsRoom t.room room (Ok found) → ((a : Replica) → IsReplica a → t ≡ tables_of a → reply ≡ told (view_of a room)) → TakesStep t (Ask room q) reply u
answered t u room found q told reply asks same finds is =
    λ a h. (a, inl (ap (λ r. record { reply = r; replica = a }) (is a h.sound h.are ∙ sym (answer_at t a room q told None asks finds.1 h.are))), subst (λ x. Stands x a) (sym same) h)

-- the refusal of a room's name answers its question
refused : (t u : Tables) (room : Text) (q : Question) (told : View → Reply) (e : Refusal) → AsksOfRoom room q told
    → u ≡ t → FindsRoom t.room room (Err e) → TakesStep t (Ask room q) (Refused (refusal_of e)) u
refused t u room q told e asks same (inl own) =
    λ a h. (a, inl (ap (λ r. record { reply = r; replica = a }) (sym (answer_at t a room q told (Some (refusal_of e)) asks own h.are))), subst (λ x. Stands x a) (sym same) h)
refused t u room q told e asks same (inr machine) = λ a h. (a, inr (machine, refl), subst (λ x. Stands x a) (sym same) h)

-- A name that is refused whatever rooms are known: every replica refuses the command so. Or the keeper was asked for its rooms, and was open.
pub refused_anywhere : {Open : Type 0} (c : Command) (room : Text) (e : Refusal) → ((t : Tables) → FindsRoom t.room room (Err e) → TakesStep t c (Refused (refusal_of e)) t)
    → Open ⊎ ((rooms : List Text) → FindsRoom rooms room (Err e)) → Open ⊎ IsRefusedAnywhere c (Refused (refusal_of e))
refused_anywhere c room e steps (inl was_open) = inl was_open
refused_anywhere c room e steps (inr all) = inr (anywhere c e (λ t. steps t (all t.room)))

-- ---- words

-- what is read of a word, and refused of it
ok_read : {A : Type 0} (o : Option A) (r : Refusal) (x : A) → Ok x ≡ ok_or o r → o ≡ Some x
ok_read {A = A} (Some y) r x e = ap Some (let same : ◌≡◌ {A = Result A Refusal} (Ok x) (Ok y) = e in cc)
ok_read {A = A} None r x e = absurd (let never : ◌≡◌ {A = Result A Refusal} (Ok x) (Err r) = e in cc)

err_read : {A : Type 0} (o : Option A) (r e : Refusal) → Err e ≡ ok_or o r → (o ≡ None) × (e ≡ r)
err_read {A = A} (Some y) r e f = absurd (let never : ◌≡◌ {A = Result A Refusal} (Err e) (Ok y) = f in cc)
err_read {A = A} None r e f = (refl, let same : ◌≡◌ {A = Result A Refusal} (Err e) (Err r) = f in cc)

-- ---- sheets

-- the day that is read is the text's
date_read : (day : Text) (d : Date) → read_date day ≡ Some d → date_in day ≡ d
date_read day d e = go (is_date (date_in day) && bytes_eq (date_text (date_in day)) day) e
  where
    go : (b : Bool) → cond b (Some (date_in day)) None ≡ Some d → date_in day ≡ d
    go true f = let g : Some (date_in day) ≡ Some d = f in cc
    go false f = absurd (let never : None ≡ Some d = f in cc)

-- a text that is no day is refused before anything else
pub day_refused : (t : Tables) (room day : Text) (e : Refusal) → Err e ≡ ok_or (read_date day) refusal.BadDay → TakesStep t (Ask room (AskSheet day)) (Refused (refusal_of e)) t
day_refused t room day e is =
    let p = err_read (read_date day) refusal.BadDay e is in
    λ a h. (a, inl (ap (λ r. record { reply = r; replica = a }) (ap (λ x. Refused (refusal_of x)) p.1 ∙ rw p.0 refl)), h)

-- and is no failure of the store
pub day_not_store : (day : Text) (e : Refusal) → Err e ≡ ok_or (read_date day) refusal.BadDay → ¬ (Refused (refusal_of e) ≡ Refused model.Store)
day_not_store day e is = λ told. absurd (let p : e ≡ refusal.BadDay = (err_read (read_date day) refusal.BadDay e is).1 in
    let never : Refused model.BadDay ≡ Refused model.Store = ap (λ x. Refused (refusal_of x)) (sym p) ∙ told in cc never)

-- with a day, a sheet is asked of the room alone
sheet_asks : (room day : Text) (d : Date) → read_date day ≡ Some d → AsksOfRoom room (AskSheet day) (λ v. Sheet room d (entries_of_day d (whole_list v)))
sheet_asks room day d e v =
    ap (λ o. unless (model.first_refusal ((is_none o, model.BadDay) ∷ (not (is_room_name room), model.BadRoomName) ∷ (not v.known, model.UnknownRoom) ∷ []))
    (Sheet room (date_in day) (entries_of_day (date_in day) (whole_list v)))) e
    ∙ ap (λ x. unless (model.first_refusal ((not (is_room_name room), model.BadRoomName) ∷ (not v.known, model.UnknownRoom) ∷ [])) (Sheet room x (entries_of_day x (whole_list v)))) (date_read day d e)

-- a sheet of a room that is not known
pub sheet_refused : (t u : Tables) (room day : Text) (d : Date) (e : Refusal) → Ok d ≡ ok_or (read_date day) refusal.BadDay
    → u ≡ t → FindsRoom t.room room (Err e) → TakesStep t (Ask room (AskSheet day)) (Refused (refusal_of e)) u
sheet_refused t u room day d e read same finds = refused t u room (AskSheet day) _ e (sheet_asks room day d (ok_read (read_date day) refusal.BadDay d read)) same finds

-- a sheet has the rows of its day
pub sheet_step : (t u : Tables) (room found day : Text) (d : Date) (rows : List BookingRow)
    → Ok d ≡ ok_or (read_date day) refusal.BadDay → u ≡ t → FindsRoom t.room room (Ok found) → AreBookings found (Some d) t rows
    → TakesStep t (Ask room (AskSheet day)) (Sheet found d (map row_entry rows)) u
sheet_step t u room found day d rows read same finds are =
    answered t u room found (AskSheet day) (λ v. Sheet room d (entries_of_day d (whole_list v)))
    (Sheet found d (map row_entry rows)) (sheet_asks room day d (ok_read (read_date day) refusal.BadDay d read)) same finds
    (λ a sound stands. ap (λ x. Sheet x d (map row_entry rows)) finds.0
    ∙ ap (Sheet room d) (sym (sheet_rows a room d rows sound (subst (λ x. AreBookings x (Some d) (tables_of a) rows) finds.0 (subst (λ x. AreBookings found (Some d) x rows) stands are)))))

-- ---- calendars

-- a calendar of a room that is not known
pub calendar_refused : (t u : Tables) (room : Text) (part : CalendarPart) (e : Refusal) → u ≡ t → FindsRoom t.room room (Err e) → TakesStep t (Ask room (AskCalendar part)) (Refused (refusal_of e)) u
calendar_refused t u room part e same finds = refused t u room (AskCalendar part) (λ v. Calendar room part (entries (calendar_list part v))) e (λ v. refl) same finds

-- the bookings of all days show the full calendar
pub all_shown : (t : Tables) (room : Text) (given : List BookingRow) → AreBookings room None t given → ShowsCalendar Full room t given
all_shown t room given are = λ a h. calendar_rows a room given h.sound (subst (λ u. AreBookings room None u given) h.are are)

-- those that are committed, with those that a tentative cancel took back, show the committed one
pub committed_shown : (t : Tables) (room : Text) (bookings : List BookingRow) (cancelled : List CancelledRow) (cancels : List CancelRow) (shown : List BookingRow)
    → AreBookings room None t bookings → IsPermutation (picked_cancelled room t) cancelled → IsPermutation (picked_cancels room t) cancels
    → IsPermutation (committed_rows bookings cancelled cancels) shown → IsSortedBy booking_before shown → ShowsCalendar Committed room t shown
committed_shown t room bookings cancelled cancels shown are back by moved up = λ a h.
    committed_calendar_rows a room bookings cancelled cancels shown h.sound
    (record {
      bookings_are = subst (λ u. IsPermutation (picked_bookings room None u) bookings) h.are are.0;
      cancelled_are = subst (λ u. IsPermutation (picked_cancelled room u) cancelled) h.are back;
      cancels_are = subst (λ u. IsPermutation (picked_cancels room u) cancels) h.are by;
    })
    moved up

-- a calendar has the rows that show it
pub calendar_step : (t u : Tables) (room found : Text) (part : CalendarPart) (shown : List BookingRow) → u ≡ t → FindsRoom t.room room (Ok found) → ShowsCalendar part found t shown
    → TakesStep t (Ask room (AskCalendar part)) (Calendar found part (map row_entry shown)) u
calendar_step t u room found part shown same finds shows =
    answered t u room found (AskCalendar part) (λ v. Calendar room part (entries (calendar_list part v))) (Calendar found part (map row_entry shown)) (λ v. refl) same finds
    (λ a sound stands. ap (λ x. Calendar x part (map row_entry shown)) finds.0
    ∙ ap (Calendar room part) (sym (subst (λ x. ShowsCalendar part x t shown) finds.0 shows a (record { sound = sound; are = stands }))))

-- ---- outcomes

-- an outcome in a room that is not known
pub outcome_refused : (t u : Tables) (room id : Text) (e : Refusal) → u ≡ t → FindsRoom t.room room (Err e) → TakesStep t (Ask room (AskOutcome id)) (Refused (refusal_of e)) u
outcome_refused t u room id e same finds = refused t u room (AskOutcome id) (λ v. outcome_reply (find_request id v)) e (λ v. refl) same finds

-- what is found of the id that a text is, and of a text that is none
id_found : (id : Text) (i : Id) (v : View) → read_id id ≡ Some i → find_request id v ≡ told_of i (whole_list v)
id_found id i v e = go (is_id_text id) e
  where
    go : (b : Bool) → only_if b (id_in id) ≡ Some i → cond b (told_of (id_in id) (whole_list v)) None ≡ told_of i (whole_list v)
    go true f = ap (λ x. told_of x (whole_list v)) (let same : Some (id_in id) ≡ Some i = f in cc)
    go false f = absurd (let never : None ≡ Some i = f in cc)

no_id_found : (id : Text) (v : View) → read_id id ≡ None → find_request id v ≡ None
no_id_found id v e = go (is_id_text id) e
  where
    go : (b : Bool) → only_if b (id_in id) ≡ None → cond b (told_of (id_in id) (whole_list v)) None ≡ None
    go true f = absurd (let never : Some (id_in id) ≡ None = f in cc)
    go false f = refl

-- a row tells of its write
pub booked_tells : (t : Tables) (room : Text) (row : BookingRow) (o : Outcome) → outcome_seen o ≡ booked_outcome row → TellsOutcomeOf room t (rows.Booked row) (Ok o)
booked_tells t room row o is = λ a h there own. booked_tell a room row h.sound (subst (λ u. IsRowIn u (rows.Booked row)) h.are there) own ∙ ap OutcomeIs (sym is)

pub logged_tells : (t : Tables) (room : Text) (row : ErrorRow) (o : Outcome) → outcome_seen o ≡ logged_outcome row → TellsOutcomeOf room t (rows.Erred row) (Ok o)
logged_tells t room row o is = λ a h there own. erred_tell a room row h.sound (subst (λ u. IsRowIn u (rows.Erred row)) h.are there) own ∙ ap OutcomeIs (sym is)

pub cancel_tells : (t : Tables) (room : Text) (row : CancelRow) (o : Outcome) → outcome_seen o ≡ cancel_outcome row → TellsOutcomeOf room t (rows.Cancel row) (Ok o)
cancel_tells t room row o is = λ a h there own. cancel_tell a room row h.sound (subst (λ u. IsRowIn u (rows.Cancel row)) h.are there) own ∙ ap OutcomeIs (sym is)

-- that of a booking that was taken back with the row of the cancel, which there is
pub cancelled_tells : (t : Tables) (room : Text) (row : CancelledRow) (found : Option code.PlaceRow) (by : CancelRow) (o : Outcome)
    → IsPlaceOf room row.by t found → row_of_cancel found ≡ Some by → outcome_seen o ≡ cancelled_outcome row by → TellsOutcomeOf room t (rows.Cancelled row) (Ok o)
cancelled_tells t room row found by o at is said = λ a h there own.
    let (c, e, told) = cancel_found a room row found h.sound (subst (λ u. IsRowIn u (rows.Cancelled row)) h.are there) own (subst (λ u. IsPlaceOf room row.by u found) h.are at) in
    told ∙ ap (λ x. OutcomeIs (cancelled_outcome row x)) (some_inj c by (sym e ∙ is)) ∙ ap OutcomeIs (sym said)

pub never_without : (t : Tables) (room : Text) (row : CancelledRow) (found : Option code.PlaceRow) (e : Refusal)
    → IsPlaceOf room row.by t found → row_of_cancel found ≡ None → TellsOutcomeOf room t (rows.Cancelled row) (Err e)
never_without t room row found e at is = λ a h there own.
    let (c, f, told) = cancel_found a room row found h.sound (subst (λ u. IsRowIn u (rows.Cancelled row)) h.are there) own (subst (λ u. IsPlaceOf room row.by u found) h.are at) in
    absurd (none_some c (sym is ∙ f))

-- the outcome of a write is what its row tells
pub outcome_step : (t u : Tables) (room found id : Text) (i : Id) (place : code.PlaceRow) (o : Outcome)
    → Ok i ≡ ok_or (read_id id) refusal.NoSuchRequest → u ≡ t → FindsRoom t.room room (Ok found) → IsPlaceOf found i t (Some place)
    → TellsOutcomeOf found t (place_row_of place) (Ok o) → TakesStep t (Ask room (AskOutcome id)) (OutcomeIs (outcome_seen o)) u
outcome_step t u room found id i place o read same finds at tells =
    answered t u room found (AskOutcome id) (λ v. outcome_reply (find_request id v)) (OutcomeIs (outcome_seen o)) (λ v. refl) same finds
    (λ a sound stands.
    let of = place_found a room i place (subst (λ x. IsPlaceOf x i (tables_of a) (Some place)) finds.0 (subst (λ x. IsPlaceOf found i x (Some place)) stands at)) in
    let said = subst (λ x. TellsOutcomeOf x t (place_row_of place) (Ok o)) finds.0 tells a
    (record { sound = sound; are = stands }) (subst (λ x. IsRowIn x (place_row_of place)) (sym stands) of.there) of.in_room in
    sym (subst (λ x. outcome_reply (told_of x (whole_list (view_of a room))) ≡ OutcomeIs (outcome_seen o)) of.of_id said)
    ∙ ap outcome_reply (sym (id_found id i (view_of a room) (ok_read (read_id id) refusal.NoSuchRequest i read))))

-- or memory or the store failed where the row of a cancel was looked up
pub outcome_failed : (t u : Tables) (room found id : Text) (i : Id) (place : code.PlaceRow) (e : Refusal) → u ≡ t → FindsRoom t.room room (Ok found) → IsPlaceOf found i t (Some place)
    → TellsOutcomeOf found t (place_row_of place) (Err e) → TakesStep t (Ask room (AskOutcome id)) (Refused (refusal_of e)) u
outcome_failed t u room found id i place e same finds at tells = λ a h.
    let of = place_found a found i place (subst (λ x. IsPlaceOf found i x (Some place)) h.are at) in
    (a, inr (tells a h (subst (λ x. IsRowIn x (place_row_of place)) (sym h.are) of.there) of.in_room, refl), subst (λ x. Stands x a) (sym same) h)

-- no row of the room has the id
pub no_request_step : (t u : Tables) (room found id : Text) (i : Id) → Ok i ≡ ok_or (read_id id) refusal.NoSuchRequest → u ≡ t → FindsRoom t.room room (Ok found) → IsPlaceOf found i t None
    → TakesStep t (Ask room (AskOutcome id)) (Refused model.NoSuchRequest) u
no_request_step t u room found id i read same finds at =
    answered t u room found (AskOutcome id) (λ v. outcome_reply (find_request id v)) (Refused model.NoSuchRequest) (λ v. refl) same finds
    (λ a sound stands. sym (no_place_told a room i sound (subst (λ x. IsPlaceOf x i (tables_of a) None) finds.0 (subst (λ x. IsPlaceOf found i x None) stands at)))
    ∙ ap outcome_reply (sym (id_found id i (view_of a room) (ok_read (read_id id) refusal.NoSuchRequest i read))))

-- a text that is no id names no request
pub bad_id_step : (t u : Tables) (room found id : Text) (e : Refusal) → Err e ≡ ok_or (read_id id) refusal.NoSuchRequest
    → u ≡ t → FindsRoom t.room room (Ok found) → TakesStep t (Ask room (AskOutcome id)) (Refused (refusal_of e)) u
bad_id_step t u room found id e bad same finds =
    let p = err_read (read_id id) refusal.NoSuchRequest e bad in
    answered t u room found (AskOutcome id) (λ v. outcome_reply (find_request id v)) (Refused (refusal_of e)) (λ v. refl) same finds
    (λ a sound stands. ap (λ x. Refused (refusal_of x)) p.1 ∙ ap outcome_reply (sym (no_id_found id (view_of a room) p.0)))

-- and is no failure of the store
pub id_not_store : (id : Text) (e : Refusal) → Err e ≡ ok_or (read_id id) refusal.NoSuchRequest → ¬ (Refused (refusal_of e) ≡ Refused model.Store)
id_not_store id e is = λ told. absurd (let p : e ≡ refusal.NoSuchRequest = (err_read (read_id id) refusal.NoSuchRequest e is).1 in
    let never : Refused model.NoSuchRequest ≡ Refused model.Store = ap (λ x. Refused (refusal_of x)) (sym p) ∙ told in cc never)

-- ---- error logs

-- an error log of a room that is not known
pub errors_refused : (t u : Tables) (room : Text) (e : Refusal) → u ≡ t → FindsRoom t.room room (Err e) → TakesStep t (Ask room AskErrors) (Refused (refusal_of e)) u
errors_refused t u room e same finds = refused t u room AskErrors (λ v. Errors room (filter_map logging_of (whole_list v))) e (λ v. refl) same finds

-- error rows and void cancels, sorted, show it
pub lines_shown : (t : Tables) (room : Text) (requests : List ErrorRow) (cancels : List CancelRow) (lines : List replies.LogLine)
    → IsPermutation (picked_errors room t) requests → IsPermutation (picked_cancels room t) cancels
    → IsPermutation (lines_of requests cancels) (map log_line_seen lines) → IsSortedByKey line_key log_key_cmp lines → ShowsLines room t (map log_line_seen lines)
lines_shown t room requests cancels lines erred by moved up = λ a h.
    log_rows a room requests cancels lines h.sound
    (record {
      requests_are = subst (λ u. IsPermutation (picked_errors room u) requests) h.are erred;
      cancels_are = subst (λ u. IsPermutation (picked_cancels room u) cancels) h.are by;
    })
    moved up

-- an error log has the lines that show it
pub errors_step : (t u : Tables) (room found : Text) (lines : List LogLine) → u ≡ t → FindsRoom t.room room (Ok found) → ShowsLines found t lines
    → TakesStep t (Ask room AskErrors) (Errors found (map line_logging lines)) u
errors_step t u room found lines same finds shows =
    answered t u room found AskErrors (λ v. Errors room (filter_map logging_of (whole_list v))) (Errors found (map line_logging lines)) (λ v. refl) same finds
    (λ a sound stands. ap (λ x. Errors x (map line_logging lines)) finds.0
    ∙ ap (Errors room) (sym (subst (λ x. ShowsLines x t lines) finds.0 shows a (record { sound = sound; are = stands }))))

-- ---- cancels whose target is no id

fault_or_none : Option model.Refusal → model.Refusal
fault_or_none None = model.NoSuchRequest
fault_or_none (Some e) = e

-- the room is looked at before the id
cancel_faulty : (a : Replica) (room id : Text) → is_id_text id ≡ false → cancel a room id ≡ refuse a (fault_or_none (room_fault a.rooms room))
unfolding fault_or_none
cancel_faulty a room id bad =
    (λ i. at (is_room_name room) (knows_room a room) (bad i && knows_booking a room (id_in id))) ∙ go (is_room_name room) (knows_room a room)
  where
    at : Bool → Bool → Bool → After
    at named known booked =
        step_unless a
        (model.first_refusal
        ((not named, model.BadRoomName) ∷ (not known, model.UnknownRoom) ∷ (not booked, model.NoSuchRequest) ∷ (clock_of a == greatest_time, model.ClockExhausted)
        ∷ (count_of a a.server == greatest_count, model.CountExhausted) ∷ []))
        (after_write a (cancel_write a room id))

    go : (named known : Bool) → at named known false ≡ refuse a (fault_or_none (model.first_refusal ((not named, model.BadRoomName) ∷ (not known, model.UnknownRoom) ∷ [])))
    go true true = refl
    go true false = refl
    go false known = refl

no_id_text : (id : Text) → read_id id ≡ None → is_id_text id ≡ false
no_id_text id e = go (is_id_text id) e
  where
    go : (b : Bool) → only_if b (id_in id) ≡ None → b ≡ false
    go true f = absurd (let never : Some (id_in id) ≡ None = f in cc)
    go false f = refl

-- the cancel at one replica, by what is at fault with the room
cancel_at : (t : Tables) (a : Replica) (room id : Text) (fault : Option model.Refusal) → read_id id ≡ None
    → room_fault t.room room ≡ fault → t ≡ tables_of a → cancel a room id ≡ refuse a (fault_or_none fault)
cancel_at t a room id fault none is are =
    cancel_faulty a room id (no_id_text id none) ∙ ap (λ o. refuse a (fault_or_none o)) (ap (λ (x : Tables). room_fault x.room room) (sym are) ∙ is)

-- a cancel in a room that is not known
pub no_cancel_refused : (t u : Tables) (room id : Text) (bad e : Refusal) → Err bad ≡ ok_or (read_id id) refusal.NoSuchRequest
    → u ≡ t → FindsRoom t.room room (Err e) → TakesStep t (Cancel room id) (Refused (refusal_of e)) u
unfolding fault_or_none
no_cancel_refused t u room id bad e read same (inl own) =
    λ a h. (a, inl (sym (cancel_at t a room id (Some (refusal_of e)) (err_read (read_id id) refusal.NoSuchRequest bad read).0 own h.are)), subst (λ x. Stands x a) (sym same) h)
no_cancel_refused t u room id bad e read same (inr machine) = λ a h. (a, inr (machine, refl), subst (λ x. Stands x a) (sym same) h)

-- a cancel in a known room
pub no_cancel_step : (t u : Tables) (room found id : Text) (e : Refusal) → Err e ≡ ok_or (read_id id) refusal.NoSuchRequest
    → u ≡ t → FindsRoom t.room room (Ok found) → TakesStep t (Cancel room id) (Refused (refusal_of e)) u
unfolding fault_or_none
no_cancel_step t u room found id e read same finds =
    let p = err_read (read_id id) refusal.NoSuchRequest e read in
    λ a h. (a, inl (ap (λ x. refuse a (refusal_of x)) p.1 ∙ sym (cancel_at t a room id None p.0 finds.1 h.are)), subst (λ x. Stands x a) (sym same) h)
