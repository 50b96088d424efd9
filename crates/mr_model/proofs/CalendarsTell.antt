-- Calendars are told by the rows of bookings, those that stand and, of the committed ones, those whose cancel is tentative.
use Rattle.std.proofs.Common.{◌≡◌, refl, sym, ap, ◌∙◌, subst, ◌+◌, ◌≤◌, true, false, List, [], ◌∷◌, ◌++◌, map, ◌⊎◌, inl, Option, Some, None}
use Rattle.std.specs.Prelude.{option_map}
use Rattle.std.specs.List.{filter_map, flat_map, cons_option}
use Rattle.mr_model.specs.Dropped.{Has}
use Rattle.mr_model.specs.Texts.{Text}
use Rattle.mr_model.specs.Slots.{Slot}
use Rattle.mr_model.specs.Writes.{Write, id_of, length_of, title_of}
use Rattle.mr_model.specs.Replay.{Booking, slot_at, booking_of}
use Rattle.mr_model.specs.Replica.{Replica, is_committed, committed, tentative, IsReplica}
use Rattle.mr_model.specs.Board.{after}
use Rattle.mr_model.specs.Replies.{Entry}
use Rattle.mr_model.specs.View.{View, Placed, Told, of_room, view_of, whole_places, committed_places, whole_list}
use Rattle.mr_model.specs.View.{committed_list, booking_unless, booked_told, entry_with, entry_unless, entry_of, entries}
use Rattle.mr_model.specs.Tables.{BookingRow, PlaceRow, place_row, as_booking, tables_of}
use Rattle.mr_model.specs.Tables as rows
use Rattle.mr_model.specs.Queries.{row_entry, BookingBefore, AreInStartOrder, AreBookingsOf}
use Rattle.mr_model.proofs.Members.{has_left, has_map, map_has, has_filter_map, filter_map_has, has_all, all_has, Sorted, sorted_right, sorted_same}
use Rattle.mr_model.proofs.UniqueReplay.{some_inj, none_some}
use Rattle.mr_model.proofs.EntryOrder.{EntryBefore, entry_from, entry_irreflexive, entry_trans, by_start_sorted, sorted_has, has_sorted, Apart}
use Rattle.mr_model.proofs.PlacedInOrder.{placed_among, committed-places, booked_by, booked_by-whole, booked_by-among, standing-told, standing-told-of-committed}
use Rattle.mr_model.proofs.Runs.{BeginApart, all_apart, run-whole, run-committed, Went}
use Rattle.mr_model.proofs.RoomTold.{IsToldOf, told_of_room, room_list, room-list, told_id, told_in_room, long_or_none}
use Rattle.mr_model.proofs.PlacesOfOrder.{room-places, room_placed}
use Rattle.mr_model.proofs.RowsById.{has_flat, known_write}
use Rattle.mr_model.proofs.RowsTell.{Case, stood, gone, erred, done, void, case_of, booked_as, erred_as, cancelled_as, cancel_as, of_known, known_of, entry-row}

-- ---- entries of bookings that begin apart begin apart

record IsBookingOf (e : Entry) (b : Booking) : Type 0 where
  day : b.slot.day ≡ e.day
  start : b.slot.start ≡ e.start

booking_of_entry : (t : Told) (e : Entry) → entry_of t ≡ Some e → (b : Booking) × (booked_told t ≡ b ∷ []) × IsBookingOf e b
booking_of_entry t e = go t.cancelled_by
  where
    at : (o : Option Slot) → entry_with t o ≡ Some e → (b : Booking) × (booking_of t.write o ≡ b ∷ []) × IsBookingOf e b
    at None h = absurd (none_some e h)
    at (Some s) h =
        let same = some_inj (record { day = s.day; start = s.start; stop = s.start + length_of t.write; is_committed = t.is_committed; id = id_of t.write; title = title_of t.write }) e h in
        (record { id = id_of t.write; slot = s; length = length_of t.write }, refl, record { day = ap (λ (x : Entry). x.day) same; start = ap (λ (x : Entry). x.start) same })

    go : (c : Option Placed) → entry_unless c t ≡ Some e → (b : Booking) × (booking_unless c t.write t.place ≡ b ∷ []) × IsBookingOf e b
    go (Some x) h = absurd (none_some e h)
    go None h = at (slot_at t.write t.place) h

entry_booked : (ts : List Told) (e : Entry) → Has e (filter_map entry_of ts) → (b : Booking) × Has b (flat_map booked_told ts) × IsBookingOf e b
entry_booked ts e h =
    let (t, g, f) = filter_map_has entry_of e ts h in
    let (b, i, s) = booking_of_entry t e f in
    (b, has_flat booked_told b t ts g (subst (λ bs. Has b bs) (sym i) (inl refl)), s)

entries_apart : (ts : List Told) → Sorted BeginApart (flat_map booked_told ts) → Sorted Apart (filter_map entry_of ts)
entries_apart [] s = tt
entries_apart (t ∷ ts) s = go (entry_of t) refl (entries_apart ts (sorted_right BeginApart (booked_told t) (flat_map booked_told ts) s))
  where
    go : (o : Option Entry) → entry_of t ≡ o → Sorted Apart (filter_map entry_of ts) → Sorted Apart (cons_option o (filter_map entry_of ts))
    go None f rest = rest
    go (Some e) f rest = (has_all (Apart e) (filter_map entry_of ts) each, rest)
      where
        each : (x : Entry) → Has x (filter_map entry_of ts) → Apart e x
        each x h d u =
            let (b, i, k) = booking_of_entry t e f in
            let (c, j, l) = entry_booked ts x h in
            let whole : Sorted BeginApart (b ∷ flat_map booked_told ts) = subst (λ bs. Sorted BeginApart (bs ++ flat_map booked_told ts)) i s in
            all_has (BeginApart b) c (flat_map booked_told ts) whole.0 j (k.day ∙ d ∙ sym l.day) (k.start ∙ u ∙ sym l.start)

-- ---- the two lists of a room

pub whole_apart : (r : Replica) (room : Text) → IsReplica r → Sorted Apart (filter_map entry_of (whole_list (view_of r room)))
whole_apart r room h =
    entries_apart (whole_list v) (subst (λ bs. Sorted BeginApart bs) (booked_by-whole v ∙ sym (standing-told v)) (all_apart (whole_places v) (run-whole v) long))
  where
    v : View
    v = view_of r room

    long : (p : Placed) → Has p (whole_places v) → Went p.write p.place → (1 ≤ length_of p.write) ⊎ (slot_at p.write p.place ≡ None)
    long p a g = long_or_none p.write p.place (known_write r p.write h (room_placed r room p h (subst (λ ps. Has p ps) (room-places r room) a)).1) g

abbrev pub committed_part : Replica → Text → List Placed
committed_part r room = placed_among true [] (of_room room (committed r))

abbrev pub tentative_part : Replica → Text → List Placed
tentative_part r room = placed_among false (after [] (of_room room (committed r))) (of_room room (tentative r))

pub part_apart : (r : Replica) (room : Text) → IsReplica r → Sorted Apart (filter_map entry_of (committed_list (view_of r room)))
part_apart r room h =
    entries_apart (committed_list v)
    (subst (λ bs. Sorted BeginApart bs) (ap (booked_by []) (committed-places v) ∙ booked_by-among true [] v.committed ∙ sym (standing-told-of-committed v))
    (all_apart (committed_places v) (run-committed v) long))
  where
    v : View
    v = view_of r room

    long : (p : Placed) → Has p (committed_places v) → Went p.write p.place → (1 ≤ length_of p.write) ⊎ (slot_at p.write p.place ≡ None)
    long p a g =
        long_or_none p.write p.place
        (known_write r p.write h (room_placed r room p h (has_left p (committed_part r room) (tentative_part r room) (subst (λ ps. Has p ps) (committed-places v) a))).1) g

-- ---- the full calendar

pub start_sorted : (rs : List BookingRow) → AreInStartOrder rs → Sorted EntryBefore (map row_entry rs)
start_sorted [] o = tt
start_sorted (r ∷ rs) o = (
  has_all (EntryBefore (row_entry r)) (map row_entry rs)
      (λ x h. let (y, g, e) = map_has row_entry x rs h in subst (EntryBefore (row_entry r)) (sym e) (entry_from (row_entry r) (row_entry y) (all_has (BookingBefore r) y rs o.0 g))),
  start_sorted rs o.1,
)

pub option_back : {A B : Type 0} (f : A → B) (o : Option A) (y : B) → option_map f o ≡ Some y → (x : A) × (o ≡ Some x) × (y ≡ f x)
option_back f None y e = absurd (none_some y e)
option_back f (Some x) y e = (x, refl, sym (some_inj (f x) y e))

-- of a write with a booking row
pub record HasBookingRow (r : Replica) (t : Told) (row : BookingRow) : Type 0 where
  pub entry : entry_of t ≡ Some (row_entry row)
  pub in_room : row.room ≡ t.write.room
  pub mark : row.committed ≡ is_committed r (told_id t)

pub with_booking_row : (r : Replica) (room : Text) (t : Told) (row : BookingRow) → IsToldOf r room t → as_booking (place_row r t.write) ≡ Some row → HasBookingRow r t row
with_booking_row r room t row k e = go (case_of r room t k)
  where
    never : (p : PlaceRow) → place_row r t.write ≡ p → as_booking p ≡ None → HasBookingRow r t row
    never p f n = absurd (none_some row (sym n ∙ ap as_booking (sym f) ∙ e))

    go : Case r t → HasBookingRow r t row
    go (stood m s f o c g) =
        let same : booked_as r t.write m s ≡ row = some_inj (booked_as r t.write m s) row (ap as_booking (sym g) ∙ e) in
        record {
          entry = entry-row r room t k ∙ ap (option_map row_entry) e;
          in_room = ap (λ (x : BookingRow). x.room) (sym same);
          mark = ap (λ (x : BookingRow). x.committed) (sym same);
        }
    go (gone m s c f o b g) = never (rows.Cancelled (cancelled_as r t.write m s c)) g refl
    go (erred m f p c g) = never (rows.Erred (erred_as r t.write m)) g refl
    go (done x f p g) = never (rows.Cancel (cancel_as r t.write x true)) g refl
    go (void x f p g) = never (rows.Cancel (cancel_as r t.write x false)) g refl

-- a booking row is that of a told write of its room
pub row_told : (r : Replica) (room : Text) (row : BookingRow) → IsReplica r → Has row (tables_of r).booking
    → row.room ≡ room → (t : Told) × Has t (room_list r room) × (as_booking (place_row r t.write) ≡ Some row)
row_told r room row h a own =
    let (w, b, i) = known_of as_booking r row a in
    let (t, c, s) = told_in_room r w.room w h b refl in
    let f = with_booking_row r w.room t row (told_of_room r w.room t h c) (ap (λ x. as_booking (place_row r x)) s ∙ i) in
    let at : w.room ≡ room = sym (ap (λ (x : Write). x.room) s) ∙ sym f.in_room ∙ own in
    let (u, d, q) = told_in_room r room w h b at in
    (u, d, ap (λ x. as_booking (place_row r x)) q ∙ i)

-- an entry of the full calendar shows a booking row of the room
pub entry_has_row : (r : Replica) (room : Text) (e : Entry) → IsReplica r → Has e (entries (whole_list (view_of r room)))
    → (row : BookingRow) × Has row (tables_of r).booking × (row.room ≡ room) × (e ≡ row_entry row)
entry_has_row r room e h a =
    let (t, b, f) = filter_map_has entry_of e (whole_list (view_of r room)) (sorted_has e (filter_map entry_of (whole_list (view_of r room))) a) in
    let k = told_of_room r room t h (subst (λ ts. Has t ts) (room-list r room) b) in
    let (row, i, s) = option_back row_entry (as_booking (place_row r t.write)) e (sym (entry-row r room t k) ∙ f) in
    let w = with_booking_row r room t row k i in
    (row, of_known as_booking r row h t.write k.known i, w.in_room ∙ k.in_room, s)

pub row_has_entry : (r : Replica) (room : Text) (row : BookingRow) → IsReplica r → Has row (tables_of r).booking → row.room ≡ room → Has (row_entry row) (entries (whole_list (view_of r room)))
row_has_entry r room row h a own =
    let (t, c, i) = row_told r room row h a own in
    let f = with_booking_row r room t row (told_of_room r room t h c) i in
    has_sorted (row_entry row) (filter_map entry_of (whole_list (view_of r room)))
    (has_filter_map entry_of t (row_entry row) (whole_list (view_of r room)) f.entry (subst (λ ts. Has t ts) (sym (room-list r room)) c))

pub entries_sorted : (r : Replica) (room : Text) → IsReplica r → Sorted EntryBefore (entries (whole_list (view_of r room)))
entries_sorted r room h = by_start_sorted (filter_map entry_of (whole_list (view_of r room))) (whole_apart r room h)

pub calendar_told : (r : Replica) (room : Text) (rows : List BookingRow) → IsReplica r → AreInStartOrder rows → AreBookingsOf r room rows → entries (whole_list (view_of r room)) ≡ map row_entry rows
calendar_told r room rs h o m =
    sorted_same EntryBefore entry_irreflexive entry_trans (entries (whole_list (view_of r room))) (map row_entry rs) (entries_sorted r room h) (start_sorted rs o) there back
  where
    there : (e : Entry) → Has e (entries (whole_list (view_of r room))) → Has e (map row_entry rs)
    there e a =
        let (row, i, own, s) = entry_has_row r room e h a in
        subst (λ x. Has x (map row_entry rs)) (sym s) (has_map row_entry row rs ((m row).1 (i, own)))

    back : (e : Entry) → Has e (map row_entry rs) → Has e (entries (whole_list (view_of r room)))
    back e a =
        let (row, g, s) = map_has row_entry e rs a in
        let q = (m row).0 g in
        subst (λ x. Has x (entries (whole_list (view_of r room)))) (sym s) (row_has_entry r room row h q.0 q.1)
