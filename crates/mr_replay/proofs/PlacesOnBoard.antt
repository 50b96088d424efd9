-- A board that has the bookings of a room's list finds for a write of the room the place that the replay gives it.
use Rattle.std.proofs.Common.{◌≡◌, Bool, true, false, cond, ◌&&◌, List, [], ◌∷◌, ◌++◌, ◌⊎◌, inl, inr, Option, Some, None, ap, refl, sym, ◌∙◌, subst}
use Rattle.std.specs.List.{AllByRecursion}
use Rattle.std.specs.List.Sorted.{IsStrictlySortedBy}
use Rattle.std.specs.declared.cmp.Ordering.TheVariants.{Less}
use Rattle.std.specs.Ordering.{is_eq}
use Rattle.std.specs.Str.{bytes_eq}
use Rattle.std.specs.Map.{keys_of, lookup}
use Rattle.std.proofs.lemmas.Bool.{true≢false}
use Rattle.mr_model.specs.Texts.{Text}
use Rattle.mr_model.specs.Writes.{Id, Write, same_id}
use Rattle.mr_model.specs.Replay.{Booking, is_booked, place_among}
use Rattle.mr_model.specs.Board.{after}
use Rattle.mr_model.specs.Dropped.{Has}
use Rattle.mr_model.proofs.Members.{has_left, has_right, has_split, same_id-true, same_id_from}
use Rattle.mr_model.proofs.UniqueReplay.{booked_has, has_booked}
use Rattle.mr_base.specs.Ids.{id_cmp}
use Rattle.mr_replay.specs.declared.rows.Standing.TheVariants.{Booked, CancelledBy, InErrorLog}
use Rattle.mr_replay.specs.declared.rows.Trace.{Trace}
use Rattle.mr_replay.specs.declared.rows.Trace.TheVariants.{OfBooking, OfCancel}
use Rattle.mr_replay.specs.declared.rows.Row.{Row}
use Rattle.mr_replay.specs.Rows.{Rows, row_at, is_standing, is_booking_of, booking_traced, bookings_of_entry, bookings_of, place_by_rows}
use Rattle.mr_replay.specs.Holds.{HaveDistinctIds, told_list, row_in, if_of, HoldsIn}
use Rattle.mr_replay.specs.Bookings.{is_taken, if_taken, HasBookings}
use Rattle.mr_replay.specs.Index.{is_row}
use Rattle.mr_replay.proofs.IdKeys.{at, at_is}
use Rattle.mr_replay.proofs.Entries.{IsInOrder}
use Rattle.mr_replay.proofs.ToldRows.{booked_at, after-row, row-after}
use Rattle.mr_model.proofs.MembersAlike.{bool_same, SameMembers, place_alike}

-- ---- the bookings of a room on a board are those of its rows

-- an id in front of all rows has none
later_absent : (i : Id) (b : Rows) → AllByRecursion (λ k. id_cmp i k ≡ Less) (keys_of b) → lookup (at i) b ≡ None
later_absent i [] h = refl
later_absent i (e ∷ es) h = ap (λ o. cond (is_eq o) (Some e.1) (lookup (at i) es)) h.0 ∙ later_absent i es h.1

pub first_absent : (e : Id × Row) (es : Rows) → IsInOrder (e ∷ es) → row_at es e.0 ≡ None
unfolding IsStrictlySortedBy
first_absent e es h = subst (λ (f : Id → Id → Bool). lookup (f e.0) es ≡ None) at_is (later_absent e.0 es h.0)

pub rest_in_order : (e : Id × Row) (es : Rows) → IsInOrder (e ∷ es) → IsInOrder es
unfolding IsStrictlySortedBy
rest_in_order e es h = h.1

trace_id : (i : Id) (k : Trace) (x : Booking) → Has x (booking_traced i k) → x.id ≡ i
trace_id i (OfBooking s l t Booked) x (inl e) = ap (λ (b : Booking). b.id) e
trace_id i (OfBooking s l t Booked) x (inr h) = absurd h
trace_id i (OfBooking s l t (CancelledBy c)) x h = absurd h
trace_id i (OfBooking s l t InErrorLog) x h = absurd h
trace_id i (OfCancel t) x h = absurd h

entry_at : (room : Text) (e : Id × Row) → bookings_of_entry room e ≡ booked_at e.0 (if_of room (Some e.1))
entry_at room e = go (bytes_eq e.1.room room)
  where
    go : (b : Bool) → cond b (booking_traced e.0 e.1.trace) [] ≡ booked_at e.0 (cond b (Some e.1) None)
    go true = refl
    go false = refl

entry_id : (room : Text) (e : Id × Row) (x : Booking) → Has x (bookings_of_entry room e) → x.id ≡ e.0
entry_id room e x h = go (bytes_eq e.1.room room) h
  where
    go : (b : Bool) → Has x (cond b (booking_traced e.0 e.1.trace) []) → x.id ≡ e.0
    go true g = trace_id e.0 e.1.trace x g
    go false g = absurd g

pub booking-row : (room : Text) (b : Rows) (x : Booking) → IsInOrder b → Has x (bookings_of room b) → Has x (booked_at x.id (if_of room (row_at b x.id)))
booking-row room [] x ordered h = absurd h
booking-row room (e ∷ es) x ordered h = go (has_split x (bookings_of_entry room e) (bookings_of room es) h) (booking-row room es x (rest_in_order e es ordered))
  where
    other : (c : Bool) → same_id x.id e.0 ≡ c → Has x (booked_at x.id (if_of room (row_at es x.id))) → Has x (booked_at x.id (if_of room (cond c (Some e.1) (row_at es x.id))))
    other false k g = g
    other true k g = absurd (subst (λ o. Has x (booked_at x.id (if_of room o))) (ap (row_at es) (same_id-true x.id e.0 k) ∙ first_absent e es ordered) g)

    go : Has x (bookings_of_entry room e) ⊎ Has x (bookings_of room es) → (Has x (bookings_of room es) → Has x (booked_at x.id (if_of room (row_at es x.id))))
        → Has x (booked_at x.id (if_of room (cond (same_id x.id e.0) (Some e.1) (row_at es x.id))))
    go (inl g) rest =
        let at : x.id ≡ e.0 = entry_id room e x g in
        subst (λ c. Has x (booked_at x.id (if_of room (cond c (Some e.1) (row_at es x.id))))) (sym (same_id_from x.id e.0 at))
        (subst (λ i. Has x (booked_at i (if_of room (Some e.1)))) (sym at) (subst (λ bs. Has x bs) (entry_at room e) g))
    go (inr g) rest = other (same_id x.id e.0) refl (rest g)

pub row-booking : (room : Text) (b : Rows) (x : Booking) → Has x (booked_at x.id (if_of room (row_at b x.id))) → Has x (bookings_of room b)
row-booking room [] x h = absurd h
row-booking room (e ∷ es) x h = go (same_id x.id e.0) refl h (row-booking room es x)
  where
    go : (c : Bool) → same_id x.id e.0 ≡ c → Has x (booked_at x.id (if_of room (cond c (Some e.1) (row_at es x.id))))
        → (Has x (booked_at x.id (if_of room (row_at es x.id))) → Has x (bookings_of room es)) → Has x (bookings_of_entry room e ++ bookings_of room es)
    go true k g rest = has_left x (bookings_of_entry room e) (bookings_of room es)
        (subst (λ bs. Has x bs) (sym (entry_at room e)) (subst (λ i. Has x (booked_at i (if_of room (Some e.1)))) (same_id-true x.id e.0 k) g))
    go false k g rest = has_right x (bookings_of_entry room e) (bookings_of room es) (rest g)

-- ---- what a cancel finds: its target is among the bookings where its row is one of the room's that stand

booking_here : (room : Text) (i : Id) (o : Option Row) → is_row (is_booking_of room) o ≡ true → (x : Booking) × Has x (booked_at i (if_of room o)) × (x.id ≡ i)
booking_here room i None h = absurd (true≢false (sym h))
booking_here room i (Some row) h = go row.trace (bytes_eq row.room room) h
  where
    go : (k : Trace) (c : Bool) → (is_standing k && c) ≡ true → (x : Booking) × Has x (booked_at i (cond c (Some (record { room = row.room; trace = k })) None)) × (x.id ≡ i)
    go (OfBooking s l t Booked) true g = (record { id = i; slot = s; length = l }, inl refl, refl)
    go (OfBooking s l t Booked) false g = absurd (true≢false (sym g))
    go (OfBooking s l t (CancelledBy c)) d g = absurd (true≢false (sym g))
    go (OfBooking s l t InErrorLog) d g = absurd (true≢false (sym g))
    go (OfCancel t) d g = absurd (true≢false (sym g))

here_booking : (room : Text) (i : Id) (o : Option Row) (x : Booking) → Has x (booked_at i (if_of room o)) → is_row (is_booking_of room) o ≡ true
here_booking room i None x h = absurd h
here_booking room i (Some row) x h = go row.trace (bytes_eq row.room room) h
  where
    go : (k : Trace) (c : Bool) → Has x (booked_at i (cond c (Some (record { room = row.room; trace = k })) None)) → (is_standing k && c) ≡ true
    go (OfBooking s l t Booked) true g = refl
    go (OfBooking s l t Booked) false g = absurd g
    go (OfBooking s l t (CancelledBy c)) true g = absurd g
    go (OfBooking s l t (CancelledBy c)) false g = absurd g
    go (OfBooking s l t InErrorLog) true g = absurd g
    go (OfBooking s l t InErrorLog) false g = absurd g
    go (OfCancel t) true g = absurd g
    go (OfCancel t) false g = absurd g

pub booked-row : (room : Text) (b : Rows) (i : Id) → IsInOrder b → is_booked i (bookings_of room b) ≡ is_row (is_booking_of room) (row_at b i)
booked-row room b i ordered =
    bool_same (is_booked i (bookings_of room b)) (is_row (is_booking_of room) (row_at b i))
    (λ e.
    let (x, h, is) = booked_has i (bookings_of room b) e in
    here_booking room i (row_at b i) x (subst (λ k. Has x (booked_at k (if_of room (row_at b k)))) is (booking-row room b x ordered h)))
    (λ e.
    let (x, h, is) = booking_here room i (row_at b i) e in
    has_booked i (bookings_of room b) x (row-booking room b x (subst (λ k. Has x (booked_at k (if_of room (row_at b k)))) (sym is) h)) is)

-- ---- where the board has the bookings of the room's list, these are the bookings after it

-- a booking that stands took its slot
standing_taken : (i : Id) (o : Option Row) → booked_at i (if_taken o) ≡ booked_at i o
standing_taken i None = refl
standing_taken i (Some row) = go row.trace
  where
    go : (k : Trace) → booked_at i (cond (is_taken k) (Some (record { room = row.room; trace = k })) None) ≡ booking_traced i k
    go (OfBooking s l t Booked) = refl
    go (OfBooking s l t (CancelledBy c)) = refl
    go (OfBooking s l t InErrorLog) = refl
    go (OfCancel t) = refl

same_booked : (room : Text) (ws : List Write) (b : Rows) → HasBookings room ws b → (i : Id) → booked_at i (if_of room (row_at b i)) ≡ booked_at i (row_in (told_list ws) i)
same_booked room ws b has i = sym (standing_taken i (if_of room (row_at b i))) ∙ ap (booked_at i) (has i) ∙ standing_taken i (row_in (told_list ws) i)

same_members : (room : Text) (ws : List Write) (b : Rows) → IsInOrder b → HaveDistinctIds ws → HasBookings room ws b → SameMembers (bookings_of room b) (after [] ws)
same_members room ws b ordered distinct has x = (
  λ h. row-after ws x (subst (λ bs. Has x bs) (same_booked room ws b has x.id) (booking-row room b x ordered h)),
  λ h. row-booking room b x (subst (λ bs. Has x bs) (sym (same_booked room ws b has x.id)) (after-row ws x distinct h)),
)

-- so a write of the room goes to the place that the room's replay gives it
pub place_by_bookings : (room : Text) (ws : List Write) (b : Rows) (w : Write) → w.room ≡ room → IsInOrder b
    → HaveDistinctIds ws → HasBookings room ws b → place_by_rows b w ≡ place_among (after [] ws) w
place_by_bookings room ws b w is ordered distinct has =
    ap (λ r. place_among (bookings_of r b) w) is ∙ place_alike (bookings_of room b) (after [] ws) (same_members room ws b ordered distinct has) w.action

pub same_place : (room : Text) (ws : List Write) (b : Rows) (w : Write) → w.room ≡ room → IsInOrder b → HaveDistinctIds ws → HoldsIn room ws b → place_by_rows b w ≡ place_among (after [] ws) w
same_place room ws b w is ordered distinct holds = place_by_bookings room ws b w is ordered distinct (λ i. ap if_taken (holds i))
