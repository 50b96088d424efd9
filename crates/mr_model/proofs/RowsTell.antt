-- The row of each known write, and the answers that rows tell.
use Rattle.std.proofs.Common.{◌≡◌, refl, sym, ap, ◌∙◌, subst, ◌+◌, Bool, true, false, Option, Some, None}
use Rattle.std.proofs.lemmas.Bool.{true≢false, false_from_ne_true}
use Rattle.std.specs.Prelude.{option_map}
use Rattle.std.specs.List.{filter_map}
use Rattle.mr_model.specs.Dropped.{Has}
use Rattle.mr_model.specs.Texts.{Text}
use Rattle.mr_model.specs.Slots.{Slot}
use Rattle.mr_model.specs.Writes.{Id, Meeting, Action, Books, Cancels, Write, id_of, same_id, length_in, title_in}
use Rattle.mr_model.specs.Replay.{Place, Taken, Logged, Done, Void, slot_at}
use Rattle.mr_model.specs.Replica.{Replica, is_committed, IsReplica}
use Rattle.mr_model.specs.Replies.{NotBooked, Cancelled, CancelDone, CancelVoid, Reply, OutcomeIs, Refused}
use Rattle.mr_model.specs.View.{Placed, Told, view_of, cancels_it, whole_list, entry_with, entry_unless, entry_of, outcome_with}
use Rattle.mr_model.specs.View.{booking_outcome, cancel_outcome_at, outcome_for, outcome_of, told_of, outcome_reply}
use Rattle.mr_model.specs.Step.{outcome_at}
use Rattle.mr_model.specs.Tables.{BookingRow, ErrorRow, CancelledRow, CancelRow, PlaceRow, by_id, seq_of, booked_in, erred_in, taken_back, cancel_row_for}
use Rattle.mr_model.specs.Tables.{booking_place_row, place_row_for, place_row, as_booking, as_error, as_cancelled, as_cancel, tables_of}
use Rattle.mr_model.specs.Tables as rows
use Rattle.mr_model.specs.Queries as told
use Rattle.mr_model.specs.Queries.{booking_id, error_id, cancelled_id, cancel_id, is_marked, row_entry, booked_outcome, logged_outcome, cancelled_outcome, IsCancelOf, TellsOutcome, IsRowFor}
use Rattle.mr_model.specs.Refusals.{NoSuchRequest}
use Rattle.mr_model.proofs.Members.{has_filter_map, filter_map_has, find_none, same_id-true}
use Rattle.mr_model.proofs.KnownById.{one_known}
use Rattle.mr_model.proofs.UniqueReplay.{some_inj, none_some}
use Rattle.mr_model.proofs.PlacesOfOrder.{room_places, room_placed}
use Rattle.mr_model.proofs.RowsById.{has_by_id, by_id_has}
use Rattle.mr_model.proofs.Runs.{Went, took, failed, did, missed}
use Rattle.mr_model.proofs.RoomTold.{IsToldOf, told_of_room, room_list, room-list, canceller, known_told, told_id, placed_told, told_cancel, committed-seq}

-- ---- rows

abbrev pub booked_as : Replica → Write → Meeting → Slot → BookingRow
booked_as r w m s = booked_in w m s (is_committed r (id_of w))

abbrev pub erred_as : Replica → Write → Meeting → ErrorRow
erred_as r w m = erred_in w m (seq_of r w)

abbrev pub cancelled_as : Replica → Write → Meeting → Slot → Placed → CancelledRow
cancelled_as r w m s by = taken_back (id_of by.write) (booked_as r w m s)

abbrev pub cancel_as : Replica → Write → Id → Bool → CancelRow
cancel_as r w t d =
    record { server = w.stamp.server; n = w.stamp.n; room = w.room; target = t; done = d; time = w.stamp.time; seq = seq_of r w }

-- what became of a write that is told, and its row
pub data Case (r : Replica) (t : Told) : Type 0 where
  stood : (m : Meeting) (s : Slot) → t.write.action ≡ Books m → slot_at t.write t.place ≡ Some s → t.cancelled_by ≡ None → place_row r t.write ≡ rows.Booked (booked_as r t.write m s) → Case r t
  gone : (m : Meeting) (s : Slot) (c : Placed) → t.write.action ≡ Books m → slot_at t.write t.place ≡ Some s
      → t.cancelled_by ≡ Some c → place_row r t.write ≡ rows.Cancelled (cancelled_as r t.write m s c) → Case r t
  erred : (m : Meeting) → t.write.action ≡ Books m → t.place ≡ Logged → t.cancelled_by ≡ None → place_row r t.write ≡ rows.Erred (erred_as r t.write m) → Case r t
  done : (x : Id) → t.write.action ≡ Cancels x → t.place ≡ Done → place_row r t.write ≡ rows.Cancel (cancel_as r t.write x true) → Case r t
  void : (x : Id) → t.write.action ≡ Cancels x → t.place ≡ Void → place_row r t.write ≡ rows.Cancel (cancel_as r t.write x false) → Case r t

pub case_of : (r : Replica) (room : Text) (t : Told) → IsToldOf r room t → Case r t
case_of r room t k = go k.went
  where
    told_row : place_row r t.write ≡ place_row_for t.write t.write.action t.place (canceller t) (is_committed r (told_id t)) (seq_of r t.write)
    told_row = let p = k.place in let c = k.cancelled in λ j. place_row_for t.write t.write.action (p j) (c j) (is_committed r (told_id t)) (seq_of r t.write)

    of_meeting : (m : Meeting) (o : Option Slot) (c : Option Placed) → t.write.action ≡ Books m → slot_at t.write t.place ≡ o → t.cancelled_by ≡ c
        → place_row r t.write ≡ booking_place_row t.write m o (option_map (λ x. id_of x.write) c) (is_committed r (told_id t)) (seq_of r t.write)
    of_meeting m o c f s e =
        told_row ∙ ap (λ a. place_row_for t.write a t.place (canceller t) (is_committed r (told_id t)) (seq_of r t.write)) f
        ∙ (λ j. booking_place_row t.write m (s j) (option_map (λ x. id_of x.write) (e j)) (is_committed r (told_id t)) (seq_of r t.write))

    of_cancel : (x : Id) (p : Place) → t.write.action ≡ Cancels x → t.place ≡ p → place_row r t.write ≡ rows.Cancel (cancel_row_for t.write x p (seq_of r t.write))
    of_cancel x p f at =
        told_row ∙ ap (λ a. place_row_for t.write a t.place (canceller t) (is_committed r (told_id t)) (seq_of r t.write)) f
        ∙ ap (λ q. rows.Cancel (cancel_row_for t.write x q (seq_of r t.write))) at

    go : Went t.write t.place → Case r t
    go (took m i s f at o) = by_cancel t.cancelled_by refl
      where
        by_cancel : (c : Option Placed) → t.cancelled_by ≡ c → Case r t
        by_cancel None e = stood m s f o e (of_meeting m (Some s) None f o e)
        by_cancel (Some c) e = gone m s c f o e (of_meeting m (Some s) (Some c) f o e)
    go (failed m f at) = by_cancel t.cancelled_by refl
      where
        by_cancel : (c : Option Placed) → t.cancelled_by ≡ c → Case r t
        by_cancel None e = erred m f at e (of_meeting m None None f (ap (slot_at t.write) at) e)
        by_cancel (Some c) e = let (s, o) = k.booked c e in absurd (none_some s (sym (ap (slot_at t.write) at) ∙ o))
    go (did x f at) = done x f at (of_cancel x Done f at)
    go (missed x f at) = void x f at (of_cancel x Void f at)

-- ---- rows in the tables

pub of_known : {A : Type 0} (f : PlaceRow → Option A) (r : Replica) (x : A) → IsReplica r → (w : Write)
    → Has w r.known → f (place_row r w) ≡ Some x → Has x (filter_map (λ v. f (place_row r v)) (by_id r.known))
of_known f r x h w a e = has_filter_map (λ v. f (place_row r v)) w x (by_id r.known) e (has_by_id r w h a)

pub known_of : {A : Type 0} (f : PlaceRow → Option A) (r : Replica) (x : A) → Has x (filter_map (λ v. f (place_row r v)) (by_id r.known)) → (w : Write) × Has w r.known × (f (place_row r w) ≡ Some x)
known_of f r x h = let (w, g, e) = filter_map_has (λ v. f (place_row r v)) x (by_id r.known) h in (w, by_id_has r w g, e)

-- ---- entries

pub entry-row : (r : Replica) (room : Text) (t : Told) → IsToldOf r room t → entry_of t ≡ option_map row_entry (as_booking (place_row r t.write))
entry-row r room t k = go (case_of r room t k)
  where
    none : (row : PlaceRow) → place_row r t.write ≡ row → as_booking row ≡ None → entry_of t ≡ None → entry_of t ≡ option_map row_entry (as_booking (place_row r t.write))
    none row e b n = n ∙ sym (ap (λ x. option_map row_entry (as_booking x)) e ∙ ap (option_map row_entry) b)

    no_slot : t.cancelled_by ≡ None → slot_at t.write t.place ≡ None → entry_of t ≡ None
    no_slot c o = ap (λ b. entry_unless b t) c ∙ ap (entry_with t) o

    no_cancel : (c : Option Placed) → t.cancelled_by ≡ c → slot_at t.write t.place ≡ None → entry_of t ≡ None
    no_cancel None c o = no_slot c o
    no_cancel (Some x) c o = ap (λ b. entry_unless b t) c

    go : Case r t → entry_of t ≡ option_map row_entry (as_booking (place_row r t.write))
    go (stood m s f o c e) =
        ap (λ b. entry_unless b t) c ∙ ap (entry_with t) o
        ∙ (let mark = k.mark in λ i. Some (record { day = s.day; start = s.start; stop = s.start + length_in (f i); is_committed = mark i; id = id_of t.write; title = title_in (f i) }))
        ∙ sym (ap (λ x. option_map row_entry (as_booking x)) e)
    go (gone m s c f o b e) = none (rows.Cancelled (cancelled_as r t.write m s c)) e refl (ap (λ x. entry_unless x t) b)
    go (erred m f p c e) = none (rows.Erred (erred_as r t.write m)) e refl (no_slot c (ap (slot_at t.write) p))
    go (done x f p e) = none (rows.Cancel (cancel_as r t.write x true)) e refl (no_cancel t.cancelled_by refl (ap (slot_at t.write) p))
    go (void x f p e) = none (rows.Cancel (cancel_as r t.write x false)) e refl (no_cancel t.cancelled_by refl (ap (slot_at t.write) p))

-- ---- outcomes

-- what is told of the cancel that took a booking back
pub record IsTakenBack (r : Replica) (t : Told) (c : Placed) : Type 0 where
  pub known : Has c.write r.known
  pub mark : c.is_committed ≡ is_committed r (id_of c.write)
  pub target : Id
  pub is_cancel : c.write.action ≡ Cancels target
  pub is_target : target ≡ told_id t
  pub same_room : c.write.room ≡ t.write.room
  pub row : place_row r c.write ≡ rows.Cancel (cancel_as r c.write target true)

pub cancels_done : (id : Id) (a : Action) (p : Place) → cancels_it id a p ≡ true → (x : Id) × (a ≡ Cancels x) × (p ≡ Done) × (x ≡ id)
cancels_done id (Books m) p e = absurd (true≢false (sym e))
cancels_done id (Cancels x) (Taken k) e = absurd (true≢false (sym e))
cancels_done id (Cancels x) Logged e = absurd (true≢false (sym e))
cancels_done id (Cancels x) Void e = absurd (true≢false (sym e))
cancels_done id (Cancels x) Done e = (x, refl, refl, sym (same_id-true id x e))

pub back_of : (r : Replica) (room : Text) (t : Told) (c : Placed) → IsReplica r → Has t (room_list r room) → t.cancelled_by ≡ Some c → IsTakenBack r t c
back_of r room t c h a e =
    let f = told_cancel (room_places r room) t c a e in
    let (e2, known, here) = room_placed r room c h f.0 in
    let (x, g, p, s) = cancels_done (told_id t) c.write.action c.place f.1 in
    let (u, i, q) = placed_told (room_places r room) c f.0 in
    let own = told_of_room r room u h i in
    record {
      known = known;
      mark = ap (λ (y : Placed). y.is_committed) e2;
      target = x;
      is_cancel = g;
      is_target = s;
      same_room = here ∙ sym (told_of_room r room t h a).in_room;
      row = subst (λ (y : Placed). y.write.action ≡ Cancels x → y.place ≡ Done → place_row r y.write ≡ rows.Cancel (cancel_as r y.write x true)) q (done_row u own x) g p;
    }
  where
    done_row : (u : Told) → IsToldOf r room u → (x : Id) → u.write.action ≡ Cancels x → u.place ≡ Done → place_row r u.write ≡ rows.Cancel (cancel_as r u.write x true)
    done_row u k x g p =
        (let q = k.place in let c = k.cancelled in λ j. place_row_for u.write (g j) (q j) (c j) (is_committed r (told_id u)) (seq_of r u.write))
        ∙ ap (λ q. rows.Cancel (cancel_row_for u.write x q (seq_of r u.write))) p

outcome_told : (r : Replica) (room : Text) (t : Told) → IsReplica r → Has t (room_list r room) → TellsOutcome (tables_of r) (place_row r t.write) (OutcomeIs (outcome_of t))
outcome_told r room t h a = go (case_of r room t k)
  where
    k : IsToldOf r room t
    k = told_of_room r room t h a

    seq-mark : is_committed r (told_id t) ≡ is_marked (seq_of r t.write)
    seq-mark = committed-seq r t.write

    turn : (p : PlaceRow) → place_row r t.write ≡ p → (told_reply : Reply) → OutcomeIs (outcome_of t) ≡ told_reply
        → TellsOutcome (tables_of r) p told_reply → TellsOutcome (tables_of r) (place_row r t.write) (OutcomeIs (outcome_of t))
    turn p e q f x = subst (λ z. TellsOutcome (tables_of r) z (OutcomeIs (outcome_of t))) (sym e) (subst (λ z. TellsOutcome (tables_of r) p z) (sym f) x)

    go : Case r t → TellsOutcome (tables_of r) (place_row r t.write) (OutcomeIs (outcome_of t))
    go (stood m s f o c e) =
        turn (rows.Booked (booked_as r t.write m s)) e (OutcomeIs (booked_outcome (booked_as r t.write m s)))
        (ap (λ x. OutcomeIs (outcome_for t x)) f ∙ ap (λ x. OutcomeIs (booking_outcome t x)) c
        ∙ ap (λ x. OutcomeIs (outcome_with t x)) (entry-row r room t k ∙ ap (λ x. option_map row_entry (as_booking x)) e))
        (told.of_booking (booked_as r t.write m s))
    go (gone m s c f o b e) =
        let back = back_of r room t c h a b in
        let row = cancel_as r c.write back.target true in
        turn (rows.Cancelled (cancelled_as r t.write m s c)) e (OutcomeIs (cancelled_outcome (cancelled_as r t.write m s c) row))
        (ap (λ x. OutcomeIs (outcome_for t x)) f ∙ ap (λ x. OutcomeIs (booking_outcome t x)) b
        ∙ (let own = k.mark in let other = back.mark ∙ committed-seq r c.write in λ i. OutcomeIs (Cancelled (told_id t) (own i) (other i) (id_of c.write))))
        (told.of_cancelled (cancelled_as r t.write m s c) row (record {
          is_there = of_known as_cancel r row h c.write back.known (ap as_cancel back.row);
          is_by = refl;
          is_done = refl;
          is_target = back.is_target;
          same_room = back.same_room;
        }))
    go (erred m f p c e) =
        turn (rows.Erred (erred_as r t.write m)) e (OutcomeIs (logged_outcome (erred_as r t.write m)))
        (ap (λ x. OutcomeIs (outcome_for t x)) f ∙ ap (λ x. OutcomeIs (booking_outcome t x)) c
        ∙ ap (λ x. OutcomeIs (outcome_with t x)) (ap (λ b. entry_unless b t) c ∙ ap (λ q. entry_with t (slot_at t.write q)) p)
        ∙ ap (λ x. OutcomeIs (NotBooked (told_id t) x)) (k.mark ∙ seq-mark))
        (told.of_error (erred_as r t.write m))
    go (done x f p e) =
        turn (rows.Cancel (cancel_as r t.write x true)) e (OutcomeIs (told.cancel_outcome (cancel_as r t.write x true)))
        (ap (λ y. OutcomeIs (outcome_for t y)) f ∙ ap (λ q. OutcomeIs (cancel_outcome_at t x q)) p
        ∙ ap (λ y. OutcomeIs (CancelDone (told_id t) y x)) (k.mark ∙ seq-mark))
        (told.of_cancel (cancel_as r t.write x true))
    go (void x f p e) =
        turn (rows.Cancel (cancel_as r t.write x false)) e (OutcomeIs (told.cancel_outcome (cancel_as r t.write x false)))
        (ap (λ y. OutcomeIs (outcome_for t y)) f ∙ ap (λ q. OutcomeIs (cancel_outcome_at t x q)) p
        ∙ ap (λ y. OutcomeIs (CancelVoid (told_id t) y x)) (k.mark ∙ seq-mark))
        (told.of_cancel (cancel_as r t.write x false))

-- the outcome of a known write is that of its row
pub outcome_is_row : (r : Replica) (w : Write) → IsReplica r → Has w r.known → TellsOutcome (tables_of r) (place_row r w) (outcome_at r w)
outcome_is_row r w h a =
    let (t, g, e) = known_told r w h a in
    let k = told_of_room r w.room t h g in
    let found : told_of (id_of w) (whole_list (view_of r w.room)) ≡ Some t = ap (λ (v : Write). told_of (id_of v) (whole_list (view_of r v.room))) (sym e) ∙ k.is_told in
    subst (λ x. TellsOutcome (tables_of r) (place_row r w) x) (sym (ap outcome_reply found))
    (subst (λ v. TellsOutcome (tables_of r) (place_row r v) (OutcomeIs (outcome_of t))) e (outcome_told r w.room t h g))

-- ---- the row of a write

row_of_action : (r : Replica) (t : Told) → Case r t
    → IsRowFor t.write.action (place_row r t.write) × (told.row_id (place_row r t.write) ≡ told_id t) × (told.row_room (place_row r t.write) ≡ t.write.room)
row_of_action r t (stood m s f o c e) =
    (subst (λ p. IsRowFor t.write.action p) (sym e) (subst (λ a. IsRowFor a (rows.Booked (booked_as r t.write m s))) (sym f) tt), ap told.row_id e, ap told.row_room e)
row_of_action r t (gone m s c f o b e) =
    (subst (λ p. IsRowFor t.write.action p) (sym e) (subst (λ a. IsRowFor a (rows.Cancelled (cancelled_as r t.write m s c))) (sym f) tt), ap told.row_id e, ap told.row_room e)
row_of_action r t (erred m f p c e) = (subst (λ p. IsRowFor t.write.action p) (sym e) (subst (λ a. IsRowFor a (rows.Erred (erred_as r t.write m))) (sym f) tt), ap told.row_id e, ap told.row_room e)
row_of_action r t (done x f p e) =
    (subst (λ p. IsRowFor t.write.action p) (sym e) (subst (λ a. IsRowFor a (rows.Cancel (cancel_as r t.write x true))) (sym f) refl), ap told.row_id e, ap told.row_room e)
row_of_action r t (void x f p e) =
    (subst (λ p. IsRowFor t.write.action p) (sym e) (subst (λ a. IsRowFor a (rows.Cancel (cancel_as r t.write x false))) (sym f) refl), ap told.row_id e, ap told.row_room e)

pub one_row : (r : Replica) (w : Write) → IsReplica r → Has w r.known → IsRowFor w.action (place_row r w) × (told.row_id (place_row r w) ≡ id_of w) × (told.row_room (place_row r w) ≡ w.room)
one_row r w h a =
    let (t, g, e) = known_told r w h a in
    subst (λ v. IsRowFor v.action (place_row r v) × (told.row_id (place_row r v) ≡ id_of v) × (told.row_room (place_row r v) ≡ v.room)) e
    (row_of_action r t (case_of r w.room t (told_of_room r w.room t h g)))

-- a row of the tables is that of a known write
pub row_is_in : (r : Replica) (p : PlaceRow) → IsReplica r → (w : Write) → Has w r.known → place_row r w ≡ p → told.IsRowIn (tables_of r) p
row_is_in r (rows.Booked row) h w a e = of_known as_booking r row h w a (ap as_booking e)
row_is_in r (rows.Erred row) h w a e = of_known as_error r row h w a (ap as_error e)
row_is_in r (rows.Cancelled row) h w a e = of_known as_cancelled r row h w a (ap as_cancelled e)
row_is_in r (rows.Cancel row) h w a e = of_known as_cancel r row h w a (ap as_cancel e)

pub booked_is : (row : BookingRow) (q : PlaceRow) → as_booking q ≡ Some row → q ≡ rows.Booked row
booked_is row (rows.Booked x) e = ap rows.Booked (some_inj x row e)
booked_is row (rows.Erred x) e = absurd (none_some row e)
booked_is row (rows.Cancelled x) e = absurd (none_some row e)
booked_is row (rows.Cancel x) e = absurd (none_some row e)

pub erred_is : (row : ErrorRow) (q : PlaceRow) → as_error q ≡ Some row → q ≡ rows.Erred row
erred_is row (rows.Booked x) e = absurd (none_some row e)
erred_is row (rows.Erred x) e = ap rows.Erred (some_inj x row e)
erred_is row (rows.Cancelled x) e = absurd (none_some row e)
erred_is row (rows.Cancel x) e = absurd (none_some row e)

pub cancelled_is : (row : CancelledRow) (q : PlaceRow) → as_cancelled q ≡ Some row → q ≡ rows.Cancelled row
cancelled_is row (rows.Booked x) e = absurd (none_some row e)
cancelled_is row (rows.Erred x) e = absurd (none_some row e)
cancelled_is row (rows.Cancelled x) e = ap rows.Cancelled (some_inj x row e)
cancelled_is row (rows.Cancel x) e = absurd (none_some row e)

pub cancel_is : (row : CancelRow) (q : PlaceRow) → as_cancel q ≡ Some row → q ≡ rows.Cancel row
cancel_is row (rows.Booked x) e = absurd (none_some row e)
cancel_is row (rows.Erred x) e = absurd (none_some row e)
cancel_is row (rows.Cancelled x) e = absurd (none_some row e)
cancel_is row (rows.Cancel x) e = ap rows.Cancel (some_inj x row e)

pub row_in_is : (r : Replica) (p : PlaceRow) → told.IsRowIn (tables_of r) p → (w : Write) × Has w r.known × (place_row r w ≡ p)
row_in_is r (rows.Booked row) h = let (w, a, e) = known_of as_booking r row h in (w, a, booked_is row (place_row r w) e)
row_in_is r (rows.Erred row) h = let (w, a, e) = known_of as_error r row h in (w, a, erred_is row (place_row r w) e)
row_in_is r (rows.Cancelled row) h = let (w, a, e) = known_of as_cancelled r row h in (w, a, cancelled_is row (place_row r w) e)
row_in_is r (rows.Cancel row) h = let (w, a, e) = known_of as_cancel r row h in (w, a, cancel_is row (place_row r w) e)

-- an id with no row of the room is no request or cancel of it
pub none_told : (r : Replica) (room : Text) (id : Id) → IsReplica r → ((p : PlaceRow) → told.IsRowIn (tables_of r) p → told.row_room p ≡ room → told.row_id p ≡ id → ⊥)
    → outcome_reply (told_of id (whole_list (view_of r room))) ≡ Refused NoSuchRequest
none_told r room id h f =
    ap (λ ts. outcome_reply (told_of id ts)) (room-list r room)
    ∙ ap outcome_reply (find_none (λ t. same_id (told_id t) id) (room_list r room) none)
  where
    none : (t : Told) → Has t (room_list r room) → same_id (told_id t) id ≡ false
    none t a =
        let k = told_of_room r room t h a in
        let o = one_row r t.write h k.known in
        false_from_ne_true (same_id (told_id t) id)
        (λ s. f (place_row r t.write) (row_is_in r (place_row r t.write) h t.write k.known refl) (o.2 ∙ k.in_room) (o.1 ∙ same_id-true (told_id t) id s))

pub none_in_room : (r : Replica) (room : Text) (id : Id) → IsReplica r
    → ((row : BookingRow) → Has row (tables_of r).booking → row.room ≡ room → booking_id row ≡ id → ⊥)
    → ((row : ErrorRow) → Has row (tables_of r).errorlog → row.room ≡ room → error_id row ≡ id → ⊥)
    → ((row : CancelledRow) → Has row (tables_of r).cancelled → row.room ≡ room → cancelled_id row ≡ id → ⊥)
    → ((row : CancelRow) → Has row (tables_of r).cancels → row.room ≡ room → cancel_id row ≡ id → ⊥)
    → outcome_reply (told_of id (whole_list (view_of r room))) ≡ Refused NoSuchRequest
none_in_room r room id h a b c d = none_told r room id h each
  where
    each : (p : PlaceRow) → told.IsRowIn (tables_of r) p → told.row_room p ≡ room → told.row_id p ≡ id → ⊥
    each (rows.Booked row) g e f = a row g e f
    each (rows.Erred row) g e f = b row g e f
    each (rows.Cancelled row) g e f = c row g e f
    each (rows.Cancel row) g e f = d row g e f

-- ---- the outcomes that rows tell

-- a row of a write of the room tells what is told of its id
told_by_row : (r : Replica) (room : Text) (p : PlaceRow) → IsReplica r → told.IsRowIn (tables_of r) p → told.row_room p ≡ room
    → TellsOutcome (tables_of r) p (outcome_reply (told_of (told.row_id p) (whole_list (view_of r room))))
told_by_row r room p h g e =
    let (w, a, s) = row_in_is r p g in
    let o = one_row r w h a in
    let id : told.row_id p ≡ id_of w = sym (ap told.row_id s) ∙ o.1 in
    let at : room ≡ w.room = sym e ∙ sym (ap told.row_room s) ∙ o.2 in
    subst (λ q. TellsOutcome (tables_of r) q (outcome_reply (told_of (told.row_id p) (whole_list (view_of r room))))) s
    (subst (λ x. TellsOutcome (tables_of r) (place_row r w) x)
    (λ i. outcome_reply (told_of (sym id i) (whole_list (view_of r (sym at i)))))
    (outcome_is_row r w h a))

-- and that outcome is one
pub booked_tells : (r : Replica) (row : BookingRow) (reply : Reply) → TellsOutcome (tables_of r) (rows.Booked row) reply → reply ≡ OutcomeIs (booked_outcome row)
booked_tells r row reply (told.of_booking x) = refl

pub erred_tells : (r : Replica) (row : ErrorRow) (reply : Reply) → TellsOutcome (tables_of r) (rows.Erred row) reply → reply ≡ OutcomeIs (logged_outcome row)
erred_tells r row reply (told.of_error x) = refl

pub cancel_tells : (r : Replica) (row : CancelRow) (reply : Reply) → TellsOutcome (tables_of r) (rows.Cancel row) reply → reply ≡ OutcomeIs (told.cancel_outcome row)
cancel_tells r row reply (told.of_cancel x) = refl

pub cancelled_tells : (r : Replica) (row : CancelledRow) (reply : Reply) → TellsOutcome (tables_of r) (rows.Cancelled row) reply
    → (c : CancelRow) × IsCancelOf (tables_of r) row c × (reply ≡ OutcomeIs (cancelled_outcome row c))
cancelled_tells r row reply (told.of_cancelled x c is) = (c, is, refl)

pub booked_tell : (r : Replica) (room : Text) (row : BookingRow) → IsReplica r → Has row (tables_of r).booking
    → row.room ≡ room → outcome_reply (told_of (booking_id row) (whole_list (view_of r room))) ≡ OutcomeIs (booked_outcome row)
booked_tell r room row h g e = booked_tells r row _ (told_by_row r room (rows.Booked row) h g e)

pub erred_tell : (r : Replica) (room : Text) (row : ErrorRow) → IsReplica r → Has row (tables_of r).errorlog
    → row.room ≡ room → outcome_reply (told_of (error_id row) (whole_list (view_of r room))) ≡ OutcomeIs (logged_outcome row)
erred_tell r room row h g e = erred_tells r row _ (told_by_row r room (rows.Erred row) h g e)

pub cancel_tell : (r : Replica) (room : Text) (row : CancelRow) → IsReplica r → Has row (tables_of r).cancels → row.room ≡ room
    → outcome_reply (told_of (cancel_id row) (whole_list (view_of r room))) ≡ OutcomeIs (told.cancel_outcome row)
cancel_tell r room row h g e = cancel_tells r row _ (told_by_row r room (rows.Cancel row) h g e)

-- one row of cancels has an id
pub one_cancel : (r : Replica) (c d : CancelRow) → IsReplica r → Has c (tables_of r).cancels → Has d (tables_of r).cancels → cancel_id c ≡ cancel_id d → c ≡ d
one_cancel r c d h g k e =
    let (v, a, s) = row_in_is r (rows.Cancel c) g in
    let (w, b, t) = row_in_is r (rows.Cancel d) k in
    let same : v ≡ w = one_known r v w h a b (sym (one_row r v h a).1 ∙ ap told.row_id s ∙ e ∙ sym (ap told.row_id t) ∙ (one_row r w h b).1) in
    some_inj c d (ap as_cancel (sym s) ∙ ap (λ x. as_cancel (place_row r x)) same ∙ ap as_cancel t)

pub cancelled_tell : (r : Replica) (room : Text) (row : CancelledRow) → IsReplica r → Has row (tables_of r).cancelled → row.room ≡ room
    → ((c : CancelRow) × IsCancelOf (tables_of r) row c)
    × ((c : CancelRow) → Has c (tables_of r).cancels → cancel_id c ≡ row.by → outcome_reply (told_of (cancelled_id row) (whole_list (view_of r room))) ≡ OutcomeIs (cancelled_outcome row c))
cancelled_tell r room row h g e =
    let (c, is, s) = cancelled_tells r row _ (told_by_row r room (rows.Cancelled row) h g e) in
    ((c, is), λ d k by. s ∙ ap (λ x. OutcomeIs (cancelled_outcome row x)) (one_cancel r c d h is.is_there k (is.is_by ∙ sym by)))

pub replies_tell : (r : Replica) (w : Write) → IsReplica r → Has w r.known
    → ((row : BookingRow) → as_booking (place_row r w) ≡ Some row → outcome_at r w ≡ OutcomeIs (booked_outcome row))
    × ((row : ErrorRow) → as_error (place_row r w) ≡ Some row → outcome_at r w ≡ OutcomeIs (logged_outcome row))
    × ((row : CancelRow) → as_cancel (place_row r w) ≡ Some row → outcome_at r w ≡ OutcomeIs (told.cancel_outcome row))
replies_tell r w h a = (
  λ row e. booked_tells r row _ (subst (λ p. TellsOutcome (tables_of r) p (outcome_at r w)) (booked_is row (place_row r w) e) (outcome_is_row r w h a)),
  λ row e. erred_tells r row _ (subst (λ p. TellsOutcome (tables_of r) p (outcome_at r w)) (erred_is row (place_row r w) e) (outcome_is_row r w h a)),
  λ row e. cancel_tells r row _ (subst (λ p. TellsOutcome (tables_of r) p (outcome_at r w)) (cancel_is row (place_row r w) e) (outcome_is_row r w h a)),
)
