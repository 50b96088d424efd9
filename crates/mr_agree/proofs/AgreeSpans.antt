-- The rows of a replica's bookings and logged requests end on their day, and not before they begin.
use Rattle.std.proofs.Common.{◌≡◌, refl, sym, ap, ◌∙◌, subst, ◌+◌, ◌≤◌, Bool, true, ◌&&◌, leb, ltb, length, inl, Option, Some, None, arith, leb-true, lt-ltb}
use Rattle.std.proofs.lemmas.Bool.{and_parts}
use Rattle.std.specs.List.{list_all, slice_get}
use Rattle.mr_model.specs.Dropped.{Has}
use Rattle.mr_model.specs.Slots.{Slot, is_slot}
use Rattle.mr_model.specs.Writes.{Id, Meeting, Action, Books, Cancels, Write, id_of, choices_of, choices_in, is_meeting, is_action, is_title, is_length, greatest_alternatives, fits_day}
use Rattle.mr_model.specs.Replay.{Place, Taken, Logged, Done, Void, slot_at}
use Rattle.mr_model.specs.Replica.{Replica, IsReplica, is_committed}
use Rattle.mr_model.specs.View.{place_of, canceller_of}
use Rattle.mr_model.specs.Tables.{BookingRow, ErrorRow, CancelledRow, PlaceRow, Booked, Erred, Cancelled, Cancel, seq_of, booking_place_row, place_row_for, place_row, tables_of}
use Rattle.mr_agree.specs.Agreeing.{is_span, do_spans_agree}
use Rattle.mr_model.proofs.Members.{slice_has}
use Rattle.mr_model.proofs.RowsById.{known_write, action_within}
use Rattle.mr_model.proofs.RoomTold.{known_went}
use Rattle.mr_model.proofs.Runs.{Went, took, failed, did, missed}
use Rattle.mr_agree.proofs.AgreeCounts.{all_true, all_three, of_booking, of_error, of_cancelled}
use Rattle.mr_model.proofs.Lists.{list_all_at}

abbrev HasSpan : PlaceRow → Type 0
HasSpan (Booked row) = is_span (record { day = row.day; start = row.start }) row.stop ≡ true
HasSpan (Erred row) = is_span (record { day = row.day; start = row.start }) row.stop ≡ true
HasSpan (Cancelled row) = is_span (record { day = row.day; start = row.start }) row.stop ≡ true
HasSpan (Cancel row) = Unit {0}

choice_span : (m : Meeting) (s : Slot) → is_meeting m ≡ true → Has s (choices_of m) → is_span s (s.start + m.length) ≡ true
choice_span m s ok g =
    let a = and_parts (is_title m.title && is_length m.length && leb (length m.alternatives) greatest_alternatives) (list_all (λ x. is_slot x && fits_day m.length x) (choices_of m)) ok in
    let b = and_parts (is_title m.title && is_length m.length) (leb (length m.alternatives) greatest_alternatives) a.0 in
    let c = and_parts (is_title m.title) (is_length m.length) b.0 in
    let long : 1 ≤ m.length = leb-true 1 m.length (and_parts (leb 1 m.length) (leb m.length 1440) c.1).0 in
    let d = and_parts (is_slot s) (fits_day m.length s) (list_all_at (λ x. is_slot x && fits_day m.length x) s (choices_of m) a.1 g) in
    all_three (is_slot s) (ltb s.start (s.start + m.length)) (leb (s.start + m.length) 1440) d.0 (lt-ltb s.start (s.start + m.length) (omega (arith, long))) d.1

has_span : (r : Replica) (w : Write) → IsReplica r → Has w r.known → HasSpan (place_row r w)
has_span r w h g = go (known_went r w h g)
  where
    within_limits : (m : Meeting) → w.action ≡ Books m → is_meeting m ≡ true
    within_limits m f = sym (ap is_action f) ∙ action_within w (known_write r w h g)

    row : (a : Action) (p : Place) → w.action ≡ a → place_of r w ≡ p → place_row_for w a p (canceller_of r w) (is_committed r (id_of w)) (seq_of r w) ≡ place_row r w
    row a p f at = λ i. place_row_for w (sym f i) (sym at i) (canceller_of r w) (is_committed r (id_of w)) (seq_of r w)

    at_slot : (m : Meeting) (s : Slot) (by : Option Id) → is_span s (s.start + m.length) ≡ true → HasSpan (booking_place_row w m (Some s) by (is_committed r (id_of w)) (seq_of r w))
    at_slot m s None e = e
    at_slot m s (Some c) e = e

    go : Went w (place_of r w) → HasSpan (place_row r w)
    go (took m k s f at o) =
        let taken : slot_at w (Taken k) ≡ Some s = sym (ap (slot_at w) at) ∙ o in
        let slot : slice_get (choices_of m) k ≡ Some s = sym (ap (λ a. slice_get (choices_in a) k) f) ∙ taken in
        subst HasSpan (ap (λ x. booking_place_row w m x (canceller_of r w) (is_committed r (id_of w)) (seq_of r w)) (sym taken) ∙ row (Books m) (Taken k) f at)
        (at_slot m s (canceller_of r w) (choice_span m s (within_limits m f) (slice_has (choices_of m) k s slot)))
    go (failed m f at) = subst HasSpan (row (Books m) Logged f at) (choice_span m m.wish (within_limits m f) (inl refl))
    go (did t f at) = subst HasSpan (row (Cancels t) Done f at) tt
    go (missed t f at) = subst HasSpan (row (Cancels t) Void f at) tt

pub spans_agree : (r : Replica) → IsReplica r → do_spans_agree (tables_of r) ≡ true
spans_agree r h =
    all_three (list_all booked (tables_of r).booking) (list_all erred (tables_of r).errorlog) (list_all gone (tables_of r).cancelled)
    (all_true booked (tables_of r).booking (λ row g. let (w, k, made, id) = of_booking r row h g in subst HasSpan made (has_span r w h k)))
    (all_true erred (tables_of r).errorlog (λ row g. let (w, k, made, id) = of_error r row h g in subst HasSpan made (has_span r w h k)))
    (all_true gone (tables_of r).cancelled (λ row g. let (w, k, made, id) = of_cancelled r row h g in subst HasSpan made (has_span r w h k)))
  where
    booked : BookingRow → Bool
    booked row = is_span (record { day = row.day; start = row.start }) row.stop

    erred : ErrorRow → Bool
    erred row = is_span (record { day = row.day; start = row.start }) row.stop

    gone : CancelledRow → Bool
    gone row = is_span (record { day = row.day; start = row.start }) row.stop
