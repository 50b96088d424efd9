-- The rows of a replica's tables are within the limits of boards.
use Rattle.std.proofs.Common.{◌≡◌, refl, sym, ap, ◌∙◌, subst, ℕ, ◌+◌, ◌≤◌, ◌&&◌, Bool, true, length, Option, Some, None, IsTrue, arith, leb, leb-true}
use Rattle.std.specs.Prelude.{nat_le}
use Rattle.std.proofs.lemmas.Bool.{and_parts}
use Rattle.std.specs.List.{slice_get}
use Rattle.mr_model.specs.Slots.{Slot}
use Rattle.mr_model.specs.Writes.{Id, Meeting, Action, Books, Cancels, Write, id_of, greatest_alternatives, is_action, is_meeting, is_title, is_length, is_server, is_count, is_time, choices_in}
use Rattle.mr_model.specs.Replay.{Place, Taken, Logged, Done, Void, slot_at}
use Rattle.mr_model.specs.Replica.{Replica, IsReplica, is_committed}
use Rattle.mr_model.specs.View.{place_of, canceller_of}
use Rattle.mr_model.specs.Tables.{BookingRow, ErrorRow, CancelledRow, PlaceRow, Booked, Erred, Cancelled, Cancel, as_booking}
use Rattle.mr_model.specs.Tables.{as_error, as_cancelled, booking_place_row, place_row_for, place_row, seq_of, tables_of}
use Rattle.mr_model.proofs.ChangesKeep.{within}
use Rattle.mr_model.proofs.Members.{has_all}
use Rattle.mr_model.proofs.RowsById.{known_write, action_within}
use Rattle.mr_model.proofs.RowsTell.{known_of, booked_is, erred_is, cancelled_is}
use Rattle.mr_model.specs.Dropped.{Has}
use Rattle.mr_tables.specs.Boards.{AreWithin, IsRowWithin}
use Rattle.mr_tables.proofs.Fitting.{choice_fits}

abbrev PlaceWithin : PlaceRow → Type 0
PlaceWithin (Booked row) = IsRowWithin row.n row.start row.stop
PlaceWithin (Erred row) = IsRowWithin row.n row.start row.stop
PlaceWithin (Cancelled row) = IsRowWithin row.n row.start row.stop
PlaceWithin (Cancel row) = Unit {0}

-- a meeting lasts a minute at least
lasts : (m : Meeting) → IsTrue (is_meeting m) → 1 ≤ m.length
lasts m h =
    let parts = and_parts (is_title m.title && is_length m.length && nat_le (length m.alternatives) greatest_alternatives) _ h in
    let heads = and_parts (is_title m.title && is_length m.length) _ parts.0 in
    leb-true 1 m.length (and_parts (leb 1 m.length) _ (and_parts (is_title m.title) (is_length m.length) heads.0).1).0

slot_within : (w : Write) (m : Meeting) (s : Slot) → IsTrue (is_count w.stamp.n) → IsTrue (is_meeting m) → s.start + m.length ≤ 1440 → IsRowWithin w.stamp.n s.start (s.start + m.length)
slot_within w m s n h fits = (n, (let some : 1 ≤ m.length = lasts m h in omega (arith, some)), fits)

meeting_within : (w : Write) (m : Meeting) (o : Option Slot) (by : Option Id) (mark : Bool) (seq : ℕ) → IsTrue (is_count w.stamp.n)
    → IsTrue (is_meeting m) → ((s : Slot) → o ≡ Some s → s.start + m.length ≤ 1440) → PlaceWithin (booking_place_row w m o by mark seq)
meeting_within w m None by mark seq n h fits = slot_within w m m.wish n h (choice_fits m 0 m.wish h refl)
meeting_within w m (Some s) None mark seq n h fits = slot_within w m s n h (fits s refl)
meeting_within w m (Some s) (Some c) mark seq n h fits = slot_within w m s n h (fits s refl)

slot_fits : (w : Write) (m : Meeting) (p : Place) (s : Slot) → IsTrue (is_meeting m) → w.action ≡ Books m → slot_at w p ≡ Some s → s.start + m.length ≤ 1440
slot_fits w m (Taken k) s h a e = choice_fits m k s h (sym (ap (λ x. slice_get (choices_in x) k) a) ∙ e)
slot_fits w m Logged s h a e = absurd (let f : ◌≡◌ {A = Option Slot} None (Some s) = e in let never : ⊥ = cc in never)
slot_fits w m Done s h a e = absurd (let f : ◌≡◌ {A = Option Slot} None (Some s) = e in let never : ⊥ = cc in never)
slot_fits w m Void s h a e = absurd (let f : ◌≡◌ {A = Option Slot} None (Some s) = e in let never : ⊥ = cc in never)

place_within : (w : Write) (a : Action) (p : Place) (by : Option Id) (mark : Bool) (seq : ℕ)
    → IsTrue (is_count w.stamp.n) → is_action a ≡ true → w.action ≡ a → PlaceWithin (place_row_for w a p by mark seq)
place_within w (Books m) p by mark seq n h e = meeting_within w m (slot_at w p) by mark seq n h (λ s f. slot_fits w m p s h e f)
place_within w (Cancels t) p by mark seq n h e = tt

pub known_within : (r : Replica) (w : Write) → IsReplica r → Has w r.known → PlaceWithin (place_row r w)
known_within r w h a =
    let ok = known_write r w h a in
    let p = and_parts (is_server w.stamp.server && is_count w.stamp.n) (is_time w.stamp.time) (within w ok).stamp in
    place_within w w.action (place_of r w) (canceller_of r w) (is_committed r (id_of w)) (seq_of r w) (and_parts (is_server w.stamp.server) (is_count w.stamp.n) p.0).1 (action_within w ok) refl

pub rows_within : (r : Replica) → IsReplica r → AreWithin (tables_of r)
rows_within r h = record {
  booking = has_all (λ (row : BookingRow). IsRowWithin row.n row.start row.stop) (tables_of r).booking
      (λ row g. let (w, a, e) = known_of as_booking r row g in subst PlaceWithin (booked_is row (place_row r w) e) (known_within r w h a));
  errorlog = has_all (λ (row : ErrorRow). IsRowWithin row.n row.start row.stop) (tables_of r).errorlog
      (λ row g. let (w, a, e) = known_of as_error r row g in subst PlaceWithin (erred_is row (place_row r w) e) (known_within r w h a));
  cancelled = has_all (λ (row : CancelledRow). IsRowWithin row.n row.start row.stop) (tables_of r).cancelled
      (λ row g. let (w, a, e) = known_of as_cancelled r row g in subst PlaceWithin (cancelled_is row (place_row r w) e) (known_within r w h a));
}
