-- What the row of a write tells of its booking and of the cancel that took it back; and its row with another cancel.
use Rattle.std.proofs.Common.{◌≡◌, refl, sym, ap, ◌∙◌, ℕ, ◌+◌, ◌-◌, Bool, Option, Some, None, arith}
use Rattle.std.specs.Prelude.{option_map}
use Rattle.std.specs.List.{slice_get}
use Rattle.mr_model.specs.Slots.{Slot}
use Rattle.mr_model.specs.Writes.{Id, Action, Books, Cancels, Write, id_of, length_in, length_of, choices_in}
use Rattle.mr_model.specs.Replay.{Place, Taken, Logged, Done, Void, Booking, slot_at}
use Rattle.mr_model.specs.Replica.{Replica, is_committed}
use Rattle.mr_model.specs.View.{place_of, canceller_of}
use Rattle.mr_model.specs.Tables.{BookingRow, PlaceRow, Booked, Erred, Cancelled, Cancel, as_booked, taken_back, booking_place_row, place_row_for, place_row, seq_of}
use Rattle.mr_model.specs.RowsInScope.{told_booking}
use Rattle.mr_model.proofs.UniqueReplay.{none_some}

-- the booking of a row, whether it stands or was taken back
abbrev pub row_booking : PlaceRow → Option Booking
row_booking (Booked row) = Some (told_booking row)
row_booking (Cancelled row) = Some (told_booking (as_booked row))
row_booking (Erred row) = None
row_booking (Cancel row) = None

-- the cancel that took it back
abbrev pub row_by : PlaceRow → Option Id
row_by (Booked row) = None
row_by (Cancelled row) = Some row.by
row_by (Erred row) = None
row_by (Cancel row) = None

-- the booking that a write made at its place
abbrev pub made_at : Write → Option Slot → Option Booking
made_at w o = option_map (λ s. record { id = id_of w; slot = s; length = length_of w }) o

abbrev pub made : Replica → Write → Option Booking
made r w = made_at w (slot_at w (place_of r w))

pub cancel_slot : (w : Write) (t : Id) (p : Place) → w.action ≡ Cancels t → slot_at w p ≡ None
cancel_slot w t (Taken k) e = ap (λ a. slice_get (choices_in a) k) e
cancel_slot w t Logged e = refl
cancel_slot w t Done e = refl
cancel_slot w t Void e = refl

row_made : (w : Write) (a : Action) (p : Place) (by : Option Id) (m : Bool) (n : ℕ) → w.action ≡ a → row_booking (place_row_for w a p by m n) ≡ made_at w (slot_at w p)
row_made w (Cancels t) p by m n e = sym (ap (made_at w) (cancel_slot w t p e))
row_made w (Books meeting) p by m n e = go (slot_at w p) by
  where
    long : (s : Slot) → s.start + meeting.length - s.start ≡ length_of w
    long s = let l : s.start + meeting.length - s.start ≡ meeting.length = omega arith in l ∙ sym (ap length_in e)

    go : (o : Option Slot) (by : Option Id) → row_booking (booking_place_row w meeting o by m n) ≡ made_at w o
    go None by = refl
    go (Some s) None = ap (λ l. Some (record { id = id_of w; slot = s; length = l })) (long s)
    go (Some s) (Some c) = ap (λ l. Some (record { id = id_of w; slot = s; length = l })) (long s)

pub row-made : (r : Replica) (w : Write) → row_booking (place_row r w) ≡ made r w
row-made r w = row_made w w.action (place_of r w) (canceller_of r w) (is_committed r (id_of w)) (seq_of r w) refl

-- a write that made a booking has its cancel in its row
row_cancel : (w : Write) (a : Action) (p : Place) (by : Option Id) (m : Bool) (n : ℕ) (b : Booking) → w.action ≡ a → made_at w (slot_at w p) ≡ Some b → row_by (place_row_for w a p by m n) ≡ by
row_cancel w (Cancels t) p by m n b e f = absurd (none_some b (sym (ap (made_at w) (cancel_slot w t p e)) ∙ f))
row_cancel w (Books meeting) p by m n b e f = go (slot_at w p) by f
  where
    go : (o : Option Slot) (by : Option Id) → made_at w o ≡ Some b → row_by (booking_place_row w meeting o by m n) ≡ by
    go None by f = absurd (none_some b f)
    go (Some s) None f = refl
    go (Some s) (Some c) f = refl

pub row-cancel : (r : Replica) (w : Write) (b : Booking) → made r w ≡ Some b → row_by (place_row r w) ≡ canceller_of r w
row-cancel r w b e = row_cancel w w.action (place_of r w) (canceller_of r w) (is_committed r (id_of w)) (seq_of r w) b refl e

-- ---- with another cancel

abbrev pub cancelled_as : Option Id → BookingRow → PlaceRow
cancelled_as None row = Booked row
cancelled_as (Some c) row = Cancelled (taken_back c row)

abbrev pub recancel : Option Id → PlaceRow → PlaceRow
recancel by (Booked row) = cancelled_as by row
recancel by (Cancelled row) = cancelled_as by (as_booked row)
recancel by (Erred row) = Erred row
recancel by (Cancel row) = Cancel row

pub row-recancel : (w : Write) (a : Action) (p : Place) (by other : Option Id) (m : Bool) (n : ℕ) → place_row_for w a p other m n ≡ recancel other (place_row_for w a p by m n)
row-recancel w (Cancels t) p by other m n = refl
row-recancel w (Books meeting) p by other m n = go (slot_at w p) by other
  where
    go : (o : Option Slot) (by other : Option Id) → booking_place_row w meeting o other m n ≡ recancel other (booking_place_row w meeting o by m n)
    go None by other = refl
    go (Some s) None None = refl
    go (Some s) None (Some c) = refl
    go (Some s) (Some d) None = refl
    go (Some s) (Some d) (Some c) = refl

-- rows that are the same are so with cancels that are the same, where they are of bookings that were made
pub same_recancel : (p q : PlaceRow) (c d : Option Id) → p ≡ q → ((b : Booking) → row_booking p ≡ Some b → c ≡ d) → recancel c p ≡ recancel d q
same_recancel (Booked row) q c d e f = ap (λ x. recancel x (Booked row)) (f (told_booking row) refl) ∙ ap (recancel d) e
same_recancel (Cancelled row) q c d e f = ap (λ x. recancel x (Cancelled row)) (f (told_booking (as_booked row)) refl) ∙ ap (recancel d) e
same_recancel (Erred row) q c d e f = ap (recancel d) e
same_recancel (Cancel row) q c d e f = ap (recancel d) e
