-- The bookings of a room in a replica's tables do not overlap, and each that was cancelled has its cancel.
use Rattle.std.proofs.Common.{◌≡◌, refl, sym, ap, ◌∙◌, subst, ◌-◌, true, not, List, [], ◌∷◌, map, inl, inr, arith}
use Rattle.std.proofs.lemmas.Bool.{and_from, and_parts, false_from_ne_true}
use Rattle.std.specs.List.{list_all}
use Rattle.std.specs.Str.{bytes_eq}
use Rattle.std.proofs.lemmas.Slice.Eq.{bytes_eq-Decides}
use Rattle.mr_model.specs.Dropped.{Has}
use Rattle.mr_model.specs.Slots.{Overlap, overlaps}
use Rattle.mr_model.specs.Writes.{Id}
use Rattle.mr_model.specs.Replay.{Booking}
use Rattle.mr_model.specs.Replica.{Replica, IsReplica, order_of}
use Rattle.mr_model.specs.Board.{after}
use Rattle.mr_model.specs.View.{of_room}
use Rattle.mr_model.specs.Laws.{AreApart}
use Rattle.mr_model.specs.Tables.{BookingRow, tables_of}
use Rattle.mr_model.specs.Queries.{booking_id}
use Rattle.mr_model.specs.RowsInScope.{told_booking}
use Rattle.mr_model.specs.Changes.{IdBefore, RiseById}
use Rattle.mr_agree.specs.Agreeing.{do_rows_overlap, are_rows_apart}
use Rattle.mr_model.proofs.Members.{all_has, has_map}
use Rattle.mr_model.proofs.SlotTests.{overlaps-true}
use Rattle.mr_model.proofs.CalendarsShow.{apart_after, overlap_turned}
use Rattle.mr_model.proofs.KeyOrder.{tables_in_order}
use Rattle.mr_model.proofs.BookedRows.{stands_booked, row_stands}
use Rattle.mr_agree.proofs.AgreeCounts.{all_true}

two_apart : (bs : List Booking) (x y : Booking) → AreApart bs → Has x bs → Has y bs → (x.id ≡ y.id → ⊥) → Overlap x.slot x.length y.slot y.length → ⊥
two_apart [] x y p a b ne o = absurd a
two_apart (c ∷ bs) x y p (inl e) (inl f) ne o = ne (ap (λ (z : Booking). z.id) (e ∙ sym f))
two_apart (c ∷ bs) x y p (inl e) (inr b) ne o = all_has (λ z. ¬ (Overlap c.slot c.length z.slot z.length)) y bs p.0 b (subst (λ (z : Booking). Overlap z.slot z.length y.slot y.length) e o)
two_apart (c ∷ bs) x y p (inr a) (inl f) ne o = all_has (λ z. ¬ (Overlap c.slot c.length z.slot z.length)) x bs p.0 a
    (subst (λ (z : Booking). Overlap z.slot z.length x.slot x.length) f (overlap_turned x.slot x.length y.slot y.length o))
two_apart (c ∷ bs) x y p (inr a) (inr b) ne o = two_apart bs x y p.1 a b ne o

-- the booking of a row stands at the end of its room's list
row_there : (r : Replica) (row : BookingRow) → IsReplica r → Has row (tables_of r).booking → Has (told_booking row) (after [] (of_room row.room (order_of r)))
row_there r row h g = let (o, e) = row_stands r row h g in stands_booked r row.room (told_booking row) h o

two_rows_apart : (r : Replica) (x y : BookingRow) → IsReplica r → Has x (tables_of r).booking → Has y (tables_of r).booking → (booking_id x ≡ booking_id y → ⊥) → do_rows_overlap x y ≡ true → ⊥
two_rows_apart r x y h a b ne o =
    let p = and_parts (bytes_eq x.room y.room) (overlaps (record { day = x.day; start = x.start }) (x.stop - x.start) (record { day = y.day; start = y.start }) (y.stop - y.start)) o in
    let room : x.room ≡ y.room = (bytes_eq-Decides x.room y.room).0 p.0 in
    two_apart (after [] (of_room y.room (order_of r))) (told_booking x) (told_booking y) (apart_after [] (of_room y.room (order_of r)) tt)
    (subst (λ t. Has (told_booking x) (after [] (of_room t (order_of r)))) room (row_there r x h a)) (row_there r y h b) ne
    (overlaps-true (record { day = x.day; start = x.start }) (x.stop - x.start) (record { day = y.day; start = y.start }) (y.stop - y.start) p.1)

pub bookings_agree : (r : Replica) → IsReplica r → are_rows_apart (tables_of r).booking ≡ true
bookings_agree r h = go (tables_of r).booking (tables_in_order r h).booking (λ x g. g)
  where
    before_not : (i j : Id) → IdBefore i j → i ≡ j → ⊥
    before_not i j (inl l) e = let s : i.server ≡ j.server = ap (λ (x : Id). x.server) e in omega (arith, l, s)
    before_not i j (inr p) e = let n : i.n ≡ j.n = ap (λ (x : Id). x.n) e in omega (arith, p.1, n)

    go : (rows : List BookingRow) → RiseById (map booking_id rows) → ((x : BookingRow) → Has x rows → Has x (tables_of r).booking) → are_rows_apart rows ≡ true
    go [] s f = refl
    go (x ∷ rows) s f =
        and_from (list_all (λ y. not (do_rows_overlap x y)) rows) (are_rows_apart rows)
        (all_true (λ y. not (do_rows_overlap x y)) rows
        (λ y g. ap not (false_from_ne_true (do_rows_overlap x y) (two_rows_apart r x y h (f x (inl refl)) (f y (inr g))
        (before_not (booking_id x) (booking_id y) (all_has (IdBefore (booking_id x)) (booking_id y) (map booking_id rows) s.0 (has_map booking_id y rows g)))))))
        (go rows s.1 (λ y g. f y (inr g)))
