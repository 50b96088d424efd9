-- Marks, commit numbers and rooms of a replica's rows agree with the vector and with the rooms.
use Rattle.std.proofs.Common.{◌≡◌, refl, sym, ap, ◌∙◌, subst, ℕ, suc, ◌+◌, ◌≤◌, Bool, true, false, cond, leb, List}
use Rattle.std.proofs.Common.{[], ◌∷◌, ◌++◌, length, map, ◌⊎◌, inl, inr, Option, Some, None, arith, IsTrue, le-leb}
use Rattle.std.proofs.lemmas.Bool.{and_from}
use Rattle.std.specs.List.{list_all, list_any}
use Rattle.std.specs.Str.{bytes_eq}
use Rattle.mr_model.specs.Dropped.{Has}
use Rattle.mr_model.specs.Texts.{Text}
use Rattle.mr_model.specs.Slots.{Slot}
use Rattle.mr_model.specs.Writes.{Id, Action, Books, Cancels, Write, id_of, same_id}
use Rattle.mr_model.specs.Replay.{Place, slot_at}
use Rattle.mr_model.specs.Replica.{Replica, IsReplica, is_committed, knows_room}
use Rattle.mr_model.specs.View.{place_of, canceller_of}
use Rattle.mr_model.specs.Tables.{BookingRow, ErrorRow, CancelledRow, CancelRow, LogRow, PlaceRow, Booked, Erred, Cancelled}
use Rattle.mr_model.specs.Tables.{Cancel, Tables, seq_among, seq_of, booking_place_row, place_row_for, place_row, tables_of}
use Rattle.mr_model.specs.Queries.{booking_id, error_id, cancelled_id, cancel_id, log_id, row_room, is_marked}
use Rattle.mr_agree.specs.Agreeing.{is_first, same_mark, does_number_agree, do_marks_agree, row_rooms, do_rooms_agree}
use Rattle.mr_model.proofs.Members.{has_split, map_has, all_has}
use Rattle.mr_model.proofs.RowsOfKnown.{rows_of_known}
use Rattle.mr_model.proofs.RowsTell.{one_row}
use Rattle.mr_model.proofs.RoomTold.{committed-seq}
use Rattle.mr_agree.proofs.AgreeCounts.{all_true, all_five, same_mark_from, known_first, of_booking, of_error, of_cancelled, of_cancel}

-- what a row tells of its write beside its place
abbrev pub RowTells : Write → Bool → ℕ → PlaceRow → Type 0
RowTells w mark seq (Booked row) = row.committed ≡ mark
RowTells w mark seq (Erred row) = (row.seq ≡ seq) × (row.time ≡ w.stamp.time)
RowTells w mark seq (Cancelled row) = row.committed ≡ mark
RowTells w mark seq (Cancel row) = (row.seq ≡ seq) × (row.time ≡ w.stamp.time)

row_for_tells : (w : Write) (a : Action) (p : Place) (by : Option Id) (mark : Bool) (seq : ℕ) → RowTells w mark seq (place_row_for w a p by mark seq)
row_for_tells w (Cancels t) p by mark seq = (refl, refl)
row_for_tells w (Books m) p by mark seq = go (slot_at w p) by
  where
    go : (o : Option Slot) (by : Option Id) → RowTells w mark seq (booking_place_row w m o by mark seq)
    go None by = (refl, refl)
    go (Some s) None = refl
    go (Some s) (Some c) = refl

pub row_tells : (r : Replica) (w : Write) (p : PlaceRow) → place_row r w ≡ p → RowTells w (is_committed r (id_of w)) (seq_of r w) p
row_tells r w p e = subst (RowTells w (is_committed r (id_of w)) (seq_of r w)) e (row_for_tells w w.action (place_of r w) (canceller_of r w) (is_committed r (id_of w)) (seq_of r w))

seq_bound : (k : ℕ) (ids : List Id) (id : Id) → 1 ≤ k → seq_among k ids id + 1 ≤ k + length ids
seq_bound k [] id l = omega (arith, l)
seq_bound k (x ∷ xs) id l = go (same_id x id) (seq_bound (k + 1) xs id (omega arith))
  where
    go : (b : Bool) → seq_among (k + 1) xs id + 1 ≤ k + 1 + length xs → cond b k (seq_among (k + 1) xs id) + 1 ≤ k + suc (length xs)
    go true ih = omega arith
    go false ih = omega (arith, ih)

pub seq_few : (r : Replica) (w : Write) → seq_of r w ≤ length r.commits
seq_few r w = let low = seq_bound 1 r.commits (id_of w) (omega arith) in omega (arith, low)

-- the number of a known write agrees with the vector
pub known_number : (r : Replica) (w : Write) (id : Id) (seq : ℕ) → IsReplica r → Has w r.known → id_of w ≡ id → seq ≡ seq_of r w → does_number_agree (tables_of r) id seq ≡ true
known_number r w id seq h a e s =
    subst (λ n. does_number_agree (tables_of r) id n ≡ true) (sym s)
    (subst (λ i. does_number_agree (tables_of r) i (seq_of r w) ≡ true) e
    (and_from (same_mark (is_marked (seq_of r w)) (is_first (tables_of r) (id_of w))) (leb (seq_of r w) (length r.commits))
    (same_mark_from (is_marked (seq_of r w)) (is_first (tables_of r) (id_of w)) (sym (committed-seq r w) ∙ sym (known_first r w h a)))
    (le-leb (seq_of r w) (length r.commits) (seq_few r w))))

known_mark : (r : Replica) (w : Write) (id : Id) (mark : Bool) → IsReplica r → Has w r.known → id_of w ≡ id → mark ≡ is_committed r (id_of w) → same_mark mark (is_first (tables_of r) id) ≡ true
known_mark r w id mark h a e s = same_mark_from mark (is_first (tables_of r) id) (s ∙ sym (known_first r w h a) ∙ ap (is_first (tables_of r)) e)

pub marks_agree : (r : Replica) → IsReplica r → do_marks_agree (tables_of r) ≡ true
marks_agree r h =
    all_five (list_all booked t.booking) (list_all gone t.cancelled) (list_all erred t.errorlog) (list_all cancels t.cancels) (list_all logged t.log)
    (all_true booked t.booking (λ row g. let (w, k, made, id) = of_booking r row h g in known_mark r w (booking_id row) row.committed h k id (row_tells r w (Booked row) made)))
    (all_true gone t.cancelled (λ row g. let (w, k, made, id) = of_cancelled r row h g in known_mark r w (cancelled_id row) row.committed h k id (row_tells r w (Cancelled row) made)))
    (all_true erred t.errorlog (λ row g. let (w, k, made, id) = of_error r row h g in known_number r w (error_id row) row.seq h k id (row_tells r w (Erred row) made).0))
    (all_true cancels t.cancels (λ row g. let (w, k, made, id) = of_cancel r row h g in known_number r w (cancel_id row) row.seq h k id (row_tells r w (Cancel row) made).0))
    (all_true logged t.log (λ row g. let (w, k, d, e) = ((rows_of_known r h).log row).0 g in known_number r w (log_id row) row.seq h k (sym (ap log_id e)) (ap (λ (x : LogRow). x.seq) e)))
  where
    t : Tables
    t = tables_of r

    booked : BookingRow → Bool
    booked row = same_mark row.committed (is_first t (booking_id row))

    gone : CancelledRow → Bool
    gone row = same_mark row.committed (is_first t (cancelled_id row))

    erred : ErrorRow → Bool
    erred row = does_number_agree t (error_id row) row.seq

    cancels : CancelRow → Bool
    cancels row = does_number_agree t (cancel_id row) row.seq

    logged : LogRow → Bool
    logged row = does_number_agree t (log_id row) row.seq

-- ---- rooms

pub rooms_agree : (r : Replica) → IsReplica r → do_rooms_agree (tables_of r) ≡ true
rooms_agree r h = all_true (λ room. list_any (bytes_eq room) r.rooms) (row_rooms (tables_of r)) (λ room g. each (tables_of r) refl room g)
  where
    here : (w : Write) (room : Text) → Has w r.known → w.room ≡ room → knows_room r room ≡ true
    here w room k e = subst (λ x. knows_room r x ≡ true) e (all_has (λ v. IsTrue (knows_room r v.room)) w r.known h.rooms_known k)

    of_row : (w : Write) (p : PlaceRow) → Has w r.known → place_row r w ≡ p → w.room ≡ row_room p
    of_row w p k e = sym (one_row r w h k).2 ∙ ap row_room e

    each : (t : Tables) → t ≡ tables_of r → (room : Text) → Has room (row_rooms t) → knows_room r room ≡ true
    each t same room g = first (has_split room (map (λ (row : BookingRow). row.room) t.booking) _ g)
      where
        last : Has room (map (λ (row : CancelRow). row.room) t.cancels) ⊎ Has room (map (λ (row : LogRow). row.room) t.log) → knows_room r room ≡ true
        last (inl a) =
            let (row, b, e) = map_has (λ (x : CancelRow). x.room) room t.cancels a in
            let (w, k, made, id) = of_cancel r row h (subst (λ (u : Tables). Has row u.cancels) same b) in
            here w room k (of_row w (Cancel row) k made ∙ sym e)
        last (inr a) =
            let (row, b, e) = map_has (λ (x : LogRow). x.room) room t.log a in
            let (w, k, d, s) = ((rows_of_known r h).log row).0 (subst (λ (u : Tables). Has row u.log) same b) in
            here w room k (sym (ap (λ (x : LogRow). x.room) s) ∙ sym e)

        third : Has room (map (λ (row : CancelledRow). row.room) t.cancelled)
            ⊎ Has room (map (λ (row : CancelRow). row.room) t.cancels ++ map (λ (row : LogRow). row.room) t.log) → knows_room r room ≡ true
        third (inl a) =
            let (row, b, e) = map_has (λ (x : CancelledRow). x.room) room t.cancelled a in
            let (w, k, made, id) = of_cancelled r row h (subst (λ (u : Tables). Has row u.cancelled) same b) in
            here w room k (of_row w (Cancelled row) k made ∙ sym e)
        third (inr a) = last (has_split room (map (λ (row : CancelRow). row.room) t.cancels) (map (λ (row : LogRow). row.room) t.log) a)

        second : Has room (map (λ (row : ErrorRow). row.room) t.errorlog)
            ⊎ Has room (map (λ (row : CancelledRow). row.room) t.cancelled ++ (map (λ (row : CancelRow). row.room) t.cancels ++ map (λ (row : LogRow). row.room) t.log)) → knows_room r room ≡ true
        second (inl a) =
            let (row, b, e) = map_has (λ (x : ErrorRow). x.room) room t.errorlog a in
            let (w, k, made, id) = of_error r row h (subst (λ (u : Tables). Has row u.errorlog) same b) in
            here w room k (of_row w (Erred row) k made ∙ sym e)
        second (inr a) = third (has_split room (map (λ (row : CancelledRow). row.room) t.cancelled) (map (λ (row : CancelRow). row.room) t.cancels ++ map (λ (row : LogRow). row.room) t.log) a)

        first : Has room (map (λ (row : BookingRow). row.room) t.booking) ⊎ Has room (map (λ (row : ErrorRow). row.room) t.errorlog
            ++ (map (λ (row : CancelledRow). row.room) t.cancelled ++ (map (λ (row : CancelRow). row.room) t.cancels ++ map (λ (row : LogRow). row.room) t.log))) → knows_room r room ≡ true
        first (inl a) =
            let (row, b, e) = map_has (λ (x : BookingRow). x.room) room t.booking a in
            let (w, k, made, id) = of_booking r row h (subst (λ (u : Tables). Has row u.booking) same b) in
            here w room k (of_row w (Booked row) k made ∙ sym e)
        first (inr a) = second (has_split room (map (λ (row : ErrorRow). row.room) t.errorlog)
            (map (λ (row : CancelledRow). row.room) t.cancelled ++ (map (λ (row : CancelRow). row.room) t.cancels ++ map (λ (row : LogRow). row.room) t.log)) a)
