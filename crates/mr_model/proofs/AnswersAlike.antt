-- Replicas that differ in dropped writes alone answer questions alike: answers are told by the rows of the tables.
use Rattle.std.proofs.Common.{◌≡◌, refl, sym, ap, ◌∙◌, subst, Bool, true, false, not, cond, ◌&&◌, [], ◌∷◌, map, Option, Some, None}
use Rattle.std.proofs.lemmas.Bool.{and_parts, and_from}
use Rattle.std.specs.Prelude.{is_none}
use Rattle.std.specs.Str.{bytes_eq}
use Rattle.std.specs.List.{list_any, filter, filter_map}
use Rattle.mr_model.specs.Texts.{Text}
use Rattle.mr_model.specs.Calendar.{date_in, read_date, same_date}
use Rattle.mr_model.specs.Writes.{Id, Action, Books, Cancels, Write, id_of, same_id, id_in, is_id_text, is_room_name, is_booking}
use Rattle.mr_model.specs.Refusals.{BadDay, BadRoomName, UnknownRoom, first_refusal}
use Rattle.mr_model.specs.Replica.{Replica, IsReplica}
use Rattle.mr_model.specs.Replies.{Entry, Full, Committed, Reply, Sheet, Calendar, Errors, OutcomeIs}
use Rattle.mr_model.specs.View.{Told, Question, AskSheet, AskCalendar, AskOutcome, AskErrors, view_of, whole_list, committed_list, entries, logging_of, told_of, unless, outcome_reply, answer}
use Rattle.mr_model.specs.Step.{outcome_at, knows_booking}
use Rattle.mr_model.specs.Tables.{BookingRow, CancelRow, PlaceRow, Tables, place_row, tables_of}
use Rattle.mr_model.specs.Tables as rows
use Rattle.mr_model.specs.Queries.{cancelled_outcome, TellsOutcome, IsCommittedBooking, stands, back, LogLine, OfLogged, OfVoid, line_logging, IsLineOf, IsRowFor}
use Rattle.mr_model.specs.Dropped.{Has}
use Rattle.mr_model.proofs.Members.{find_has, sorted_same, same_id-true, any_has, has_any}
use Rattle.mr_model.proofs.KnownById.{partner}
use Rattle.mr_model.proofs.EntryOrder.{EntryBefore, entry_irreflexive, entry_trans}
use Rattle.mr_model.proofs.MembersAlike.{bool_same}
use Rattle.mr_model.proofs.RoomTold.{room_list, room-list, told_id, told_of_room}
use Rattle.mr_model.proofs.RowsTell.{one_row, one_cancel, outcome_is_row, booked_tells, erred_tells, cancel_tells, cancelled_tells}
use Rattle.mr_model.proofs.CalendarsTell.{entry_has_row, row_has_entry, entries_sorted}
use Rattle.mr_model.proofs.CommittedTell.{committed_has_row, row_has_committed, committed_sorted}
use Rattle.mr_model.proofs.ErrorsTell.{room_lines, lines_sorted, line_is_of, is_of_line, loggings-lines, same_lines}
use Rattle.mr_model.proofs.TwinTables.{Pair, pair_room, twin_turned, same_row, to_tables}
use Rattle.mr_model.proofs.TwinTaking.{Twins}

pub twins_turned : (a b : Replica) → Twins a b → Twins b a
twins_turned a b t = record { first = t.second; second = t.first; alike = twin_turned a b t.alike }

pub twin_tables : (a b : Replica) → Twins a b → tables_of a ≡ tables_of b
twin_tables a b t = to_tables a b t.first t.second t.alike

-- the write with the same id, and its row, at the other replica
twin_pair : (a b : Replica) (x : Write) → Twins a b → Has x a.known → (y : Write) × Pair a b x y
twin_pair a b x t h =
    let (y, k, id) = partner a b x t.first t.second t.alike.counts h in
    (y, record { first = h; second = k; one_id = sym id; row = same_row a b t.first t.second t.alike x y h k (sym id) })

-- ---- outcomes

-- what a row tells as its outcome is one reply
one_outcome : (r : Replica) (p : PlaceRow) (x y : Reply) → IsReplica r → TellsOutcome (tables_of r) p x → TellsOutcome (tables_of r) p y → x ≡ y
one_outcome r (rows.Booked row) x y h f g = booked_tells r row x f ∙ sym (booked_tells r row y g)
one_outcome r (rows.Erred row) x y h f g = erred_tells r row x f ∙ sym (erred_tells r row y g)
one_outcome r (rows.Cancel row) x y h f g = cancel_tells r row x f ∙ sym (cancel_tells r row y g)
one_outcome r (rows.Cancelled row) x y h f g =
    let (c, i, s) = cancelled_tells r row x f in
    let (d, j, q) = cancelled_tells r row y g in
    s ∙ ap (λ (z : CancelRow). OutcomeIs (cancelled_outcome row z)) (one_cancel r c d h i.is_there j.is_there (i.is_by ∙ sym j.is_by)) ∙ sym q

pair_outcome : (a b : Replica) (x y : Write) → Twins a b → Pair a b x y → outcome_at a x ≡ outcome_at b y
pair_outcome a b x y t p =
    one_outcome a (place_row a x) (outcome_at a x) (outcome_at b y) t.first (outcome_is_row a x t.first p.first)
    (subst (λ q. TellsOutcome (tables_of a) q (outcome_at b y)) (sym p.row)
    (subst (λ (ts : Tables). TellsOutcome ts (place_row b y) (outcome_at b y)) (sym (twin_tables a b t)) (outcome_is_row b y t.second p.second)))

-- what is told of an id is told of its write, which is known
told_write : (r : Replica) (room : Text) (id : Id) (t : Told) → IsReplica r → told_of id (whole_list (view_of r room)) ≡ Some t → Has t.write r.known × (t.write.room ≡ room) × (id_of t.write ≡ id)
told_write r room id t h e =
    let f = find_has (λ u. same_id (told_id u) id) t (room_list r room) (ap (told_of id) (sym (room-list r room)) ∙ e) in
    let k = told_of_room r room t h f.0 in
    (k.known, k.in_room, same_id-true (told_id t) id f.1)

outcome_over : (a b : Replica) (room : Text) (id : Id) (u : Told) → Twins a b → told_of id (whole_list (view_of a room)) ≡ Some u
    → outcome_reply (told_of id (whole_list (view_of a room))) ≡ outcome_reply (told_of id (whole_list (view_of b room)))
outcome_over a b room id u t e =
    let k = told_write a room id u t.first e in
    let (y, p) = twin_pair a b u.write t k.0 in
    let room_is : y.room ≡ room = sym (pair_room a b u.write y t.first t.second p) ∙ k.1 in
    let id_is : id_of y ≡ id = sym p.one_id ∙ k.2 in
    (λ i. outcome_reply (told_of (sym k.2 i) (whole_list (view_of a (sym k.1 i)))))
    ∙ pair_outcome a b u.write y t p
    ∙ (λ i. outcome_reply (told_of (id_is i) (whole_list (view_of b (room_is i)))))

pub same_outcome : (a b : Replica) (room : Text) (id : Id) → Twins a b → outcome_reply (told_of id (whole_list (view_of a room))) ≡ outcome_reply (told_of id (whole_list (view_of b room)))
same_outcome a b room id t = go (told_of id (whole_list (view_of a room))) refl (told_of id (whole_list (view_of b room))) refl
  where
    go : (o : Option Told) → told_of id (whole_list (view_of a room)) ≡ o → (u : Option Told) → told_of id (whole_list (view_of b room)) ≡ u
        → outcome_reply (told_of id (whole_list (view_of a room))) ≡ outcome_reply (told_of id (whole_list (view_of b room)))
    go (Some v) e u f = outcome_over a b room id v t e
    go None e (Some v) f = sym (outcome_over b a room id v (twins_turned a b t) f)
    go None e None f = ap outcome_reply (e ∙ sym f)

pub same_outcome_at : (a b : Replica) (w : Write) → Twins a b → outcome_at a w ≡ outcome_at b w
same_outcome_at a b w t = same_outcome a b w.room (id_of w) t

-- ---- calendars

entry_over : (a b : Replica) (room : Text) (e : Entry) → Twins a b → Has e (entries (whole_list (view_of a room))) → Has e (entries (whole_list (view_of b room)))
entry_over a b room e t h =
    let (row, i, own, s) = entry_has_row a room e t.first h in
    subst (λ x. Has x (entries (whole_list (view_of b room)))) (sym s)
    (row_has_entry b room row t.second (subst (λ (ts : Tables). Has row ts.booking) (twin_tables a b t) i) own)

pub same_entries : (a b : Replica) (room : Text) → Twins a b → entries (whole_list (view_of a room)) ≡ entries (whole_list (view_of b room))
same_entries a b room t =
    sorted_same EntryBefore entry_irreflexive entry_trans (entries (whole_list (view_of a room))) (entries (whole_list (view_of b room)))
    (entries_sorted a room t.first) (entries_sorted b room t.second)
    (λ e h. entry_over a b room e t h) (λ e h. entry_over b a room e (twins_turned a b t) h)

committed_same : (a b : Replica) (room : Text) (row : BookingRow) → tables_of a ≡ tables_of b → IsCommittedBooking a room row → IsCommittedBooking b room row
committed_same a b room row e (stands i own mark) = stands (subst (λ (ts : Tables). Has row ts.booking) e i) own mark
committed_same a b room row e (back gone c i own mark j by zero is) =
    back gone c (subst (λ (ts : Tables). Has gone ts.cancelled) e i) own mark (subst (λ (ts : Tables). Has c ts.cancels) e j) by zero is

committed_over : (a b : Replica) (room : Text) (e : Entry) → Twins a b → Has e (entries (committed_list (view_of a room))) → Has e (entries (committed_list (view_of b room)))
committed_over a b room e t h =
    let (row, c, s) = committed_has_row a room e t.first h in
    subst (λ x. Has x (entries (committed_list (view_of b room)))) (sym s)
    (row_has_committed b room row t.second (committed_same a b room row (twin_tables a b t) c))

pub same_committed_entries : (a b : Replica) (room : Text) → Twins a b → entries (committed_list (view_of a room)) ≡ entries (committed_list (view_of b room))
same_committed_entries a b room t =
    sorted_same EntryBefore entry_irreflexive entry_trans (entries (committed_list (view_of a room))) (entries (committed_list (view_of b room)))
    (committed_sorted a room t.first) (committed_sorted b room t.second)
    (λ e h. committed_over a b room e t h) (λ e h. committed_over b a room e (twins_turned a b t) h)

-- ---- the error log

line_same : (a b : Replica) (room : Text) (l : LogLine) → tables_of a ≡ tables_of b → IsLineOf a room l → IsLineOf b room l
line_same a b room (OfLogged row) e p = (subst (λ (ts : Tables). Has row ts.errorlog) e p.0, p.1)
line_same a b room (OfVoid row) e p = (subst (λ (ts : Tables). Has row ts.cancels) e p.0, p.1, p.2)

line_over : (a b : Replica) (room : Text) (l : LogLine) → Twins a b → Has l (room_lines a room) → Has l (room_lines b room)
line_over a b room l t h = is_of_line b room l t.second (line_same a b room l (twin_tables a b t) (line_is_of a room l t.first h))

pub same_loggings : (a b : Replica) (room : Text) → Twins a b → filter_map logging_of (whole_list (view_of a room)) ≡ filter_map logging_of (whole_list (view_of b room))
same_loggings a b room t =
    loggings-lines a room t.first
    ∙ ap (map line_logging)
    (same_lines (room_lines a room) (room_lines b room) (lines_sorted a room t.first) (lines_sorted b room t.second)
    (λ l h. line_over a b room l t h) (λ l h. line_over b a room l (twins_turned a b t) h))
    ∙ sym (loggings-lines b room t.second)

-- ---- bookings that are known

booking_row : (p : PlaceRow) (a b : Action) → IsRowFor a p → IsRowFor b p → is_booking a ≡ is_booking b
booking_row p (Books m) (Books n) f g = refl
booking_row p (Cancels t) (Cancels u) f g = refl
booking_row (rows.Booked row) (Books m) (Cancels u) f g = absurd g
booking_row (rows.Erred row) (Books m) (Cancels u) f g = absurd g
booking_row (rows.Cancelled row) (Books m) (Cancels u) f g = absurd g
booking_row (rows.Cancel row) (Books m) (Cancels u) f g = absurd f
booking_row (rows.Booked row) (Cancels t) (Books n) f g = absurd f
booking_row (rows.Erred row) (Cancels t) (Books n) f g = absurd f
booking_row (rows.Cancelled row) (Cancels t) (Books n) f g = absurd f
booking_row (rows.Cancel row) (Cancels t) (Books n) f g = absurd g

knows_over : (a b : Replica) (room : Text) (id : Id) → Twins a b → knows_booking a room id ≡ true → knows_booking b room id ≡ true
knows_over a b room id t e =
    let (x, h, f) = has_any (λ w. same_id (id_of w) id && bytes_eq w.room room && is_booking w.action) a.known e in
    let p = and_parts (same_id (id_of x) id && bytes_eq x.room room) (is_booking x.action) f in
    let q = and_parts (same_id (id_of x) id) (bytes_eq x.room room) p.0 in
    let (y, pair) = twin_pair a b x t h in
    let id_is : same_id (id_of y) id ≡ true = ap (λ i. same_id i id) (sym pair.one_id) ∙ q.0 in
    let room_is : bytes_eq y.room room ≡ true = ap (λ z. bytes_eq z room) (sym (pair_room a b x y t.first t.second pair)) ∙ q.1 in
    let books : is_booking y.action ≡ true =
    booking_row (place_row b y) y.action x.action (one_row b y t.second pair.second).0 (subst (IsRowFor x.action) pair.row (one_row a x t.first h).0) ∙ p.1 in
    any_has (λ w. same_id (id_of w) id && bytes_eq w.room room && is_booking w.action) y b.known
    (and_from (same_id (id_of y) id && bytes_eq y.room room) (is_booking y.action) (and_from (same_id (id_of y) id) (bytes_eq y.room room) id_is room_is) books)
    pair.second

pub same_knows : (a b : Replica) (room : Text) (id : Id) → Twins a b → knows_booking a room id ≡ knows_booking b room id
same_knows a b room id t =
    bool_same (knows_booking a room id) (knows_booking b room id) (knows_over a b room id t) (knows_over b a room id (twins_turned a b t))

-- ---- all questions

known_same : (a b : Replica) (room : Text) → Twins a b → (view_of a room).known ≡ (view_of b room).known
known_same a b room t = ap (list_any (bytes_eq room)) t.alike.rooms

pub same_answer : (a b : Replica) (room : Text) (q : Question) → Twins a b → answer room (view_of a room) q ≡ answer room (view_of b room) q
same_answer a b room (AskSheet day) t =
    let k = known_same a b room t in
    let es = same_entries a b room t in
    λ i. unless (first_refusal ((is_none (read_date day), BadDay) ∷ (not (is_room_name room), BadRoomName) ∷ (not (k i), UnknownRoom) ∷ []))
    (Sheet room (date_in day) (filter (λ e. same_date e.day (date_in day)) (es i)))
same_answer a b room (AskCalendar Full) t =
    let k = known_same a b room t in
    let es = same_entries a b room t in
    λ i. unless (first_refusal ((not (is_room_name room), BadRoomName) ∷ (not (k i), UnknownRoom) ∷ [])) (Calendar room Full (es i))
same_answer a b room (AskCalendar Committed) t =
    let k = known_same a b room t in
    let es = same_committed_entries a b room t in
    λ i. unless (first_refusal ((not (is_room_name room), BadRoomName) ∷ (not (k i), UnknownRoom) ∷ [])) (Calendar room Committed (es i))
same_answer a b room (AskOutcome id) t =
    let k = known_same a b room t in
    let o = found (is_id_text id) in
    λ i. unless (first_refusal ((not (is_room_name room), BadRoomName) ∷ (not (k i), UnknownRoom) ∷ [])) (o i)
  where
    found : (c : Bool) → outcome_reply (cond c (told_of (id_in id) (whole_list (view_of a room))) None) ≡ outcome_reply (cond c (told_of (id_in id) (whole_list (view_of b room))) None)
    found true = same_outcome a b room (id_in id) t
    found false = refl
same_answer a b room AskErrors t =
    let k = known_same a b room t in
    let ls = same_loggings a b room t in
    λ i. unless (first_refusal ((not (is_room_name room), BadRoomName) ∷ (not (k i), UnknownRoom) ∷ [])) (Errors room (ls i))
