-- What the board of a replica tells of its bookings and of the cancels that took them back.
use Rattle.std.proofs.Common.{◌≡◌, refl, sym, ap, ◌∙◌, subst, ℕ, ◌+◌, ◌≤◌, Bool, true, false, cond, ◌&&◌, leb, List, [], ◌∷◌, ◌++◌, ◌⊎◌, inl, inr, Option, Some, None, bytes_eq, arith}
use Rattle.std.proofs.lemmas.Bool.{true≢false, and_parts, false_from_ne_true}
use Rattle.std.specs.List.{list_any, slice_get}
use Rattle.std.specs.Option.{option_map}
use Rattle.mr_model.specs.Texts.{Text}
use Rattle.mr_model.specs.Slots.{Slot}
use Rattle.mr_model.specs.Writes.{Id, Meeting, Action, Books, Cancels, Write, id_of, same_id, choices_in, is_stamp, is_room_name, is_action, is_booking}
use Rattle.mr_model.specs.Replay.{Place, Taken, Logged, Done, Void, slot_at}
use Rattle.mr_model.specs.Replica.{Replica, IsReplica, is_committed}
use Rattle.mr_model.specs.View.{Placed, place_of, canceller_of}
use Rattle.mr_model.specs.Tables.{VectorRow, PlaceRow, Booked, Erred, Cancelled, Cancel, seq_of, booking_place_row, place_row_for, place_row, tables_of}
use Rattle.mr_model.specs.Step.{knows_booking}
use Rattle.mr_model.specs.Dropped.{Has}
use Rattle.mr_model.proofs.KnownById.{one_known}
use Rattle.mr_model.proofs.Members.{any_has, has_any, same_id-true, same_id_from}
use Rattle.mr_model.proofs.RoomTold.{known_told, told_of_room}
use Rattle.mr_model.proofs.RowsById.{known_write, server_bounds}
use Rattle.mr_model.proofs.UniqueReplay.{none_some}
use Rattle.mr_replay.specs.Rows.{row_at, trace_with, trace_for, Rows}
use Rattle.mr_tables.specs.declared.summary.Tally.{Tally}
use Rattle.mr_tables.specs.Boards as tables
use Rattle.mr_tables.specs.Change.{ChangeView}
use Rattle.mr_tables.specs.Summary.{tally_at}
use Rattle.mr_tables.specs.Written.{with_place}
use Rattle.mr_tables.proofs.BoardsTold.{known_at, unknown_at, known_or_none}
use Rattle.mr_tables.proofs.Fitting.{choice_fits}
use Rattle.mr_part.specs.Placing.{with_places_put, board_place, TraceEnds, RowEnds, row_canceller, is_booking_trace, is_booking_row_in, has_booking_on}
use Rattle.mr_part.proofs.RowsPut.{tallies_of}
use Rattle.mr_agree.proofs.AgreeCounts.{vector-at, known_first}
use Rattle.mr_replay.specs.declared.rows.Trace.{Trace}
use Rattle.mr_replay.specs.declared.rows.Row.{Row}
use Rattle.mr_tables.proofs.Summaries.{tally-of}
use Rattle.mr_model.proofs.RowCancels.{cancel_slot}

-- one row more is put
pub put-more : (c : ChangeView) (rows : List PlaceRow) (row : PlaceRow) → with_places_put c (rows ++ row ∷ []) ≡ with_place (with_places_put c rows) row
put-more c [] row = refl
put-more c (r ∷ rs) row = put-more (with_place c r) rs row

-- ---- the board of a replica, and marks of its bookings

-- that which its tables tell
abbrev pub board_of : Replica → Rows
board_of r = tables.board_of (tables_of r)

-- what is read of the row that a write has, if it has one
abbrev pub of_row : {R : Type 0} → (Id → Row → Option R) → Id → Option Row → Option R
of_row f i None = None
of_row f i (Some row) = f i row

-- a known write has the mark that its tally tells
pub known_mark : (r : Replica) (w : Write) → IsReplica r → Has w r.known → leb w.stamp.n (tally_at (tallies_of r) w.stamp.server).committed ≡ is_committed r (id_of w)
known_mark r w h a =
    let top : w.stamp.server ≤ 99 = (server_bounds w (known_write r w h a)).1 in
    ap (λ (t : Tally). leb w.stamp.n t.committed) (tally-of r w.stamp.server (omega (arith, top)))
    ∙ ap (λ (v : VectorRow). leb w.stamp.n v.committed) (sym (vector-at r w.stamp.server h))
    ∙ known_first r w h a

-- what is read of a write's row by what is kept
abbrev pub kept_row : {R : Type 0} → (Id → Row → Option R) → Write → Option Trace → Option R
kept_row f w o = of_row f (id_of w) (option_map (λ k. record { room = w.room; trace = k }) o)

-- ---- the cancel that took a write back

-- only a booking that has a slot is taken back
pub canceller_slot : (r : Replica) (w : Write) (c : Id) → IsReplica r → Has w r.known → canceller_of r w ≡ Some c → (s : Slot) × (slot_at w (place_of r w) ≡ Some s)
canceller_slot r w c h k e =
    let (t, g, s) = known_told r w h k in
    let told = told_of_room r w.room t h g in
    subst (λ v. (s : Slot) × (slot_at v (place_of r v) ≡ Some s)) s
    (go t.write t.cancelled_by refl (sym told.cancelled ∙ ap (canceller_of r) s ∙ e) told.booked told.place)
  where
    go : (v : Write) {p : Place} {o : Option Placed} (x : Option Placed) → o ≡ x → option_map (λ (y : Placed). id_of y.write) o ≡ Some c
        → ((y : Placed) → o ≡ Some y → (z : Slot) × (slot_at v p ≡ Some z)) → place_of r v ≡ p → (z : Slot) × (slot_at v (place_of r v) ≡ Some z)
    go v None q f booked place = absurd (none_some c (ap (option_map (λ (y : Placed). id_of y.write)) (sym q) ∙ f))
    go v (Some y) q f booked place = let (z, i) = booked y q in (z, ap (slot_at v) place ∙ i)

canceller-row : (w : Write) (a : Action) (p : Place) (by : Option Id) → w.action ≡ a → ((c : Id) → by ≡ Some c → (s : Slot) × (slot_at w p ≡ Some s))
    → row_canceller (option_map (λ k. record { room = w.room; trace = k }) (trace_for w a p by)) ≡ by
canceller-row w (Books m) p by e f = go (slot_at w p) by f
  where
    go : (o : Option Slot) (by : Option Id) → ((c : Id) → by ≡ Some c → (s : Slot) × (o ≡ Some s)) → row_canceller (Some (record { room = w.room; trace = trace_with m o by })) ≡ by
    go None None f = refl
    go None (Some c) f = let (s, i) = f c refl in absurd (none_some s i)
    go (Some s) None f = refl
    go (Some s) (Some c) f = refl
canceller-row w (Cancels t) p by e f = go by p f
  where
    go : (by : Option Id) (q : Place) → ((c : Id) → by ≡ Some c → (s : Slot) × (slot_at w p ≡ Some s))
        → row_canceller (option_map (λ k. record { room = w.room; trace = k }) (trace_for w (Cancels t) q by)) ≡ by
    go (Some c) q f = let (s, i) = f c refl in absurd (none_some s (sym (cancel_slot w t p e) ∙ i))
    go None (Taken k) f = refl
    go None Logged f = refl
    go None Done f = refl
    go None Void f = refl

-- is told by the board
pub canceller-here : (r : Replica) (w : Write) → IsReplica r → Has w r.known → row_canceller (row_at (board_of r) (id_of w)) ≡ canceller_of r w
canceller-here r w h k = ap row_canceller (known_at r w h k) ∙ canceller-row w w.action (place_of r w) (canceller_of r w) refl (λ c e. canceller_slot r w c h k e)

-- ---- the row of a booking

-- of a booking that has its slot or was taken back
abbrev pub if_placed : PlaceRow → Option PlaceRow
if_placed (Booked row) = Some (Booked row)
if_placed (Erred row) = None
if_placed (Cancelled row) = Some (Cancelled row)
if_placed (Cancel row) = None

placed-meeting : (ts : List Tally) (w : Write) (m : Meeting) (o : Option Slot) (by : Option Id) (mark : Bool) (seq : ℕ)
    → leb w.stamp.n (tally_at ts w.stamp.server).committed ≡ mark → kept_row (board_place ts) w (Some (trace_with m o by)) ≡ if_placed (booking_place_row w m o by mark seq)
placed-meeting ts w m None by mark seq e = refl
placed-meeting ts w m (Some s) None mark seq e =
    λ i. Some (Booked (record { room = w.room; day = s.day; start = s.start; stop = s.start + m.length; server = w.stamp.server; n = w.stamp.n; title = m.title; committed = e i }))
placed-meeting ts w m (Some s) (Some c) mark seq e =
    λ i. Some (Cancelled (record { room = w.room; day = s.day; start = s.start; stop = s.start + m.length; server = w.stamp.server; n = w.stamp.n; title = m.title; committed = e i; by = c }))

placed-row : (ts : List Tally) (w : Write) (a : Action) (p : Place) (by : Option Id) (mark : Bool) (seq : ℕ)
    → leb w.stamp.n (tally_at ts w.stamp.server).committed ≡ mark → kept_row (board_place ts) w (trace_for w a p by) ≡ if_placed (place_row_for w a p by mark seq)
placed-row ts w (Books m) p by mark seq e = placed-meeting ts w m (slot_at w p) by mark seq e
placed-row ts w (Cancels t) (Taken k) by mark seq e = refl
placed-row ts w (Cancels t) Logged by mark seq e = refl
placed-row ts w (Cancels t) Done by mark seq e = refl
placed-row ts w (Cancels t) Void by mark seq e = refl

-- the board tells the row of a known booking
pub placed-here : (r : Replica) (w : Write) → IsReplica r → Has w r.known → of_row (board_place (tallies_of r)) (id_of w) (row_at (board_of r) (id_of w)) ≡ if_placed (place_row r w)
placed-here r w h k =
    ap (of_row (board_place (tallies_of r)) (id_of w)) (known_at r w h k)
    ∙ placed-row (tallies_of r) w w.action (place_of r w) (canceller_of r w) (is_committed r (id_of w)) (seq_of r w) (known_mark r w h k)

-- ---- its end

meeting_ends : (w : Write) (m : Meeting) (o : Option Slot) (by : Option Id) → ((s : Slot) → o ≡ Some s → s.start + m.length ≤ 1440) → m.wish.start + m.length ≤ 1440 → TraceEnds (trace_with m o by)
meeting_ends w m None by f wish = wish
meeting_ends w m (Some s) None f wish = f s refl
meeting_ends w m (Some s) (Some c) f wish = f s refl

row_ends : (w : Write) (a : Action) (p : Place) (by : Option Id) → w.action ≡ a → is_action a ≡ true → RowEnds (option_map (λ k. record { room = w.room; trace = k }) (trace_for w a p by))
row_ends w (Books m) p by e good = meeting_ends w m (slot_at w p) by (λ s f. go p s f) (choice_fits m 0 m.wish good refl)
  where
    go : (p : Place) (s : Slot) → slot_at w p ≡ Some s → s.start + m.length ≤ 1440
    go (Taken k) s f = choice_fits m k s good (sym (ap (λ x. slice_get (choices_in x) k) e) ∙ f)
    go Logged s f = absurd (none_some s f)
    go Done s f = absurd (none_some s f)
    go Void s f = absurd (none_some s f)
row_ends w (Cancels t) (Taken k) by e good = tt
row_ends w (Cancels t) Logged by e good = tt
row_ends w (Cancels t) Done by e good = tt
row_ends w (Cancels t) Void by e good = tt

-- each booking on the board ends on its day
pub rows_end : (r : Replica) (i : Id) → IsReplica r → RowEnds (row_at (board_of r) i)
rows_end r i h = go (known_or_none i r.known)
  where
    go : ((w : Write) × Has w r.known × (id_of w ≡ i)) ⊎ ((w : Write) → Has w r.known → id_of w ≡ i → ⊥) → RowEnds (row_at (board_of r) i)
    go (inl (w, k, s)) =
        subst (λ j. RowEnds (row_at (board_of r) j)) s
        (subst RowEnds (sym (known_at r w h k))
        (row_ends w w.action (place_of r w) (canceller_of r w) refl (and_parts (is_stamp w.stamp && is_room_name w.room) (is_action w.action) (known_write r w h k)).1))
    go (inr none) = subst RowEnds (sym (unknown_at r i none)) tt

-- ---- whether it is known

booking_row-is : (w : Write) (room : Text) (a : Action) (p : Place) (by : Option Id)
    → is_booking_row_in room (option_map (λ k. record { room = w.room; trace = k }) (trace_for w a p by)) ≡ (bytes_eq w.room room && is_booking a)
booking_row-is w room (Books m) p by = go (slot_at w p) by (bytes_eq w.room room)
  where
    go : (o : Option Slot) (by : Option Id) (b : Bool) → cond b (is_booking_trace (trace_with m o by)) false ≡ (b && true)
    go None by true = refl
    go (Some s) None true = refl
    go (Some s) (Some c) true = refl
    go None by false = refl
    go (Some s) None false = refl
    go (Some s) (Some c) false = refl
booking_row-is w room (Cancels t) p by = go p (bytes_eq w.room room)
  where
    other : (b : Bool) → cond b false false ≡ (b && false)
    other true = refl
    other false = refl

    never : (b : Bool) → false ≡ (b && false)
    never true = refl
    never false = refl

    go : (p : Place) (b : Bool) → is_booking_row_in room (option_map (λ k. record { room = w.room; trace = k }) (trace_for w (Cancels t) p by)) ≡ (bytes_eq w.room room && false)
    go (Taken k) b = other (bytes_eq w.room room)
    go Logged b = other (bytes_eq w.room room)
    go Done b = never (bytes_eq w.room room)
    go Void b = other (bytes_eq w.room room)

-- the board has the bookings that are known
pub booking-known : (r : Replica) (room : Text) (i : Id) → IsReplica r → has_booking_on (board_of r) room i ≡ knows_booking r room i
booking-known r room i h = go (known_or_none i r.known)
  where
    test : Write → Bool
    test w = same_id (id_of w) i && bytes_eq w.room room && is_booking w.action

    found : (w : Write) → Has w r.known → id_of w ≡ i → (b : Bool) → (bytes_eq w.room room && is_booking w.action) ≡ b → b ≡ list_any test r.known
    found w k s true e = sym (any_has test w r.known (all_true (same_id (id_of w) i) (bytes_eq w.room room) (is_booking w.action) (same_id_from (id_of w) i s) e) k)
      where
        all_true : (x y z : Bool) → x ≡ true → (y && z) ≡ true → (x && y && z) ≡ true
        all_true true true true f g = refl
        all_true true true false f g = g
        all_true true false z f g = absurd (true≢false (sym g))
        all_true false y z f g = absurd (true≢false (sym f))
    found w k s false e = sym (false_from_ne_true (list_any test r.known) none)
      where
        parts : (x y z : Bool) → (x && y && z) ≡ true → (x ≡ true) × ((y && z) ≡ true)
        parts true true true f = (refl, refl)
        parts true true false f = absurd (true≢false (sym f))
        parts true false z f = absurd (true≢false (sym f))
        parts false y z f = absurd (true≢false (sym f))

        none : list_any test r.known ≡ true → ⊥
        none t =
            let (v, c, f) = has_any test r.known t in
            let p = parts (same_id (id_of v) i) (bytes_eq v.room room) (is_booking v.action) f in
            let same : v ≡ w = one_known r v w h c k (same_id-true (id_of v) i p.0 ∙ sym s) in
            true≢false (sym p.1 ∙ ap (λ (x : Write). bytes_eq x.room room && is_booking x.action) same ∙ e)

    go : ((w : Write) × Has w r.known × (id_of w ≡ i)) ⊎ ((w : Write) → Has w r.known → id_of w ≡ i → ⊥) → has_booking_on (board_of r) room i ≡ list_any test r.known
    go (inl (w, k, s)) =
        ap (λ j. is_booking_row_in room (row_at (board_of r) j)) (sym s) ∙ ap (is_booking_row_in room) (known_at r w h k)
        ∙ booking_row-is w room w.action (place_of r w) (canceller_of r w) ∙ found w k s (bytes_eq w.room room && is_booking w.action) refl
    go (inr none) =
        ap (is_booking_row_in room) (unknown_at r i none)
        ∙ sym (false_from_ne_true (list_any test r.known) (λ t. let (v, c, f) = has_any test r.known t in
        none v c (same_id-true (id_of v) i (first (same_id (id_of v) i) (bytes_eq v.room room) (is_booking v.action) f))))
      where
        first : (x y z : Bool) → (x && y && z) ≡ true → x ≡ true
        first true y z f = refl
        first false y z f = absurd (true≢false (sym f))
