-- The board that the rows of a replica's tables tell holds the replica's writes in the order of their execution.
use Rattle.std.proofs.Common.{◌≡◌, refl, sym, ap, ◌∙◌, subst, ℕ, ◌+◌, ◌-◌, Bool, true, false, cond, List, [], ◌∷◌, ◌++◌, map, ◌⊎◌, inl, inr, Option, Some, None, bytes_eq, arith}
use Rattle.std.proofs.lemmas.Bool.{true≢false, cond-true}
use Rattle.std.proofs.lemmas.List.Elements.{filter-append}
use Rattle.std.specs.List.{filter, find}
use Rattle.std.specs.Option.{option_map}
use Rattle.std.specs.BTreeMap.{insert_entry}
use Rattle.mr_model.specs.Texts.{Text}
use Rattle.mr_model.specs.Slots.{Slot}
use Rattle.mr_model.specs.Writes.{Id, Meeting, Action, Books, Cancels, Write, id_of, same_id}
use Rattle.mr_model.specs.Replay.{Place, Taken, Logged, Done, Void, slot_at}
use Rattle.mr_model.specs.Replica.{Replica, IsReplica, committed, tentative, order_of, is_committed}
use Rattle.mr_model.specs.View.{Told, of_room, view_of, whole_list, told_of, place_of, canceller_of}
use Rattle.mr_model.specs.Tables.{CancelRow, PlaceRow, Booked, Erred, Cancelled, Cancel, Tables, as_booking, as_error}
use Rattle.mr_model.specs.Tables.{as_cancelled, as_cancel, booking_place_row, place_row_for, place_row, seq_of, tables_of}
use Rattle.mr_model.specs.Dropped.{Has}
use Rattle.mr_model.specs.Laws.{Fate, fate_of}
use Rattle.mr_model.proofs.CalendarsShow.{fates_by_order}
use Rattle.mr_model.proofs.KnownById.{one_known}
use Rattle.mr_model.proofs.Members.{has_left, has_right, has_split, has_map, map_has, has_filter, filter_has, find_has, same_id-true, same_id_from}
use Rattle.mr_model.proofs.PlacesOfOrder.{room_true, room_from}
use Rattle.mr_model.proofs.RoomTold.{room_list, room-list, told_of_room, known_told}
use Rattle.mr_model.proofs.RowsTell.{of_known, known_of, booked_is, erred_is, cancelled_is, cancel_is}
use Rattle.mr_model.proofs.UniqueReplay.{some_inj, none_some}
use Rattle.mr_base.specs.Ids.{id_cmp}
use Rattle.mr_replay.specs.declared.rows.Standing.TheVariants.{CancelledBy, InErrorLog}
use Rattle.mr_replay.specs.declared.rows.Standing.TheVariants as standing
use Rattle.mr_replay.specs.declared.rows.Trace.{Trace}
use Rattle.mr_replay.specs.declared.rows.Trace.TheVariants.{OfBooking}
use Rattle.mr_replay.specs.declared.rows.Row.{Row}
use Rattle.mr_replay.specs.Rows.{Rows, row_at, trace_with, trace_for, row_of}
use Rattle.mr_replay.specs.Holds.{told_list, row_if, row_in, if_of, HoldsIn, Holds}
use Rattle.mr_replay.proofs.Entries.{IsInOrder, row_at-put, in_order-put}
use Rattle.mr_replay.proofs.Holding.{Holds-empty}
use Rattle.mr_tables.specs.Boards.{booking_entry, error_entry, cancelled_entry, cancel_entry, is_void, put_entries, board_of}

-- ---- the entry that a row makes on the board

abbrev pub entry_of : PlaceRow → Option (Id × Row)
entry_of (Booked row) = Some (booking_entry row)
entry_of (Erred row) = Some (error_entry row)
entry_of (Cancelled row) = Some (cancelled_entry row)
entry_of (Cancel row) = cond (is_void row) (Some (cancel_entry row)) None

abbrev pub entry_with : Id → Option Row → Option (Id × Row)
entry_with i None = None
entry_with i (Some row) = Some (i, row)

long : (a b : ℕ) → a + b - a ≡ b
long a b = omega arith

meeting-entry : (w : Write) (m : Meeting) (o : Option Slot) (by : Option Id) (mark : Bool) (seq : ℕ)
    → entry_of (booking_place_row w m o by mark seq) ≡ Some (id_of w, record { room = w.room; trace = trace_with m o by })
meeting-entry w m None by mark seq = λ i. Some (id_of w, record { room = w.room; trace = OfBooking m.wish (long m.wish.start m.length i) m.title InErrorLog })
meeting-entry w m (Some s) None mark seq = λ i. Some (id_of w, record { room = w.room; trace = OfBooking s (long s.start m.length i) m.title standing.Booked })
meeting-entry w m (Some s) (Some c) mark seq = λ i. Some (id_of w, record { room = w.room; trace = OfBooking s (long s.start m.length i) m.title (CancelledBy c) })

pub row-entry : (w : Write) (a : Action) (p : Place) (by : Option Id) (mark : Bool) (seq : ℕ)
    → entry_of (place_row_for w a p by mark seq) ≡ entry_with (id_of w) (option_map (λ k. record { room = w.room; trace = k }) (trace_for w a p by))
row-entry w (Books m) p by mark seq = meeting-entry w m (slot_at w p) by mark seq
row-entry w (Cancels t) (Taken k) by mark seq = refl
row-entry w (Cancels t) Logged by mark seq = refl
row-entry w (Cancels t) Done by mark seq = refl
row-entry w (Cancels t) Void by mark seq = refl

-- the row of a known write on the board
abbrev pub known_row : Replica → Write → Option Row
known_row r w = row_of w (place_of r w) (canceller_of r w)

known-entry : (r : Replica) (w : Write) → entry_of (place_row r w) ≡ entry_with (id_of w) (known_row r w)
known-entry r w = row-entry w w.action (place_of r w) (canceller_of r w) (is_committed r (id_of w)) (seq_of r w)

entry_parts : (r : Replica) (w : Write) (e : Id × Row) → entry_of (place_row r w) ≡ Some e → (id_of w ≡ e.0) × (Some e.1 ≡ known_row r w)
entry_parts r w e s = go (known_row r w) refl (sym (known-entry r w) ∙ s)
  where
    go : (o : Option Row) → known_row r w ≡ o → entry_with (id_of w) o ≡ Some e → (id_of w ≡ e.0) × (Some e.1 ≡ known_row r w)
    go None k t = absurd (none_some e t)
    go (Some row) k t =
        let same : (id_of w, row) ≡ e = some_inj (id_of w, row) e t in
        (ap (λ (x : Id × Row). x.0) same, ap (λ (x : Id × Row). Some x.1) (sym same) ∙ sym k)

-- ---- all entries of the tables

abbrev pub all_entries : Tables → List (Id × Row)
all_entries t = map booking_entry t.booking ++ (map error_entry t.errorlog ++ (map cancelled_entry t.cancelled ++ map cancel_entry (filter is_void t.cancels)))

pub entries-append : (xs ys : List (Id × Row)) (b : Rows) → put_entries (xs ++ ys) b ≡ put_entries ys (put_entries xs b)
entries-append [] ys b = refl
entries-append (x ∷ xs) ys b = entries-append xs ys (insert_entry id_cmp b x.0 x.1)

pub board-entries : (t : Tables) → put_entries (all_entries t) [] ≡ board_of t
board-entries t =
    let bs = map booking_entry t.booking in
    let es = map error_entry t.errorlog in
    let cs = map cancelled_entry t.cancelled in
    let vs = map cancel_entry (filter is_void t.cancels) in
    entries-append bs (es ++ (cs ++ vs)) [] ∙ entries-append es (cs ++ vs) (put_entries bs []) ∙ entries-append cs vs (put_entries es (put_entries bs []))

-- each is that of a known write
entry_known : (r : Replica) (e : Id × Row) → Has e (all_entries (tables_of r)) → (w : Write) × Has w r.known × (entry_of (place_row r w) ≡ Some e)
entry_known r e h = first (has_split e (map booking_entry t.booking) (map error_entry t.errorlog ++ (map cancelled_entry t.cancelled ++ map cancel_entry (filter is_void t.cancels))) h)
  where
    t : Tables
    t = tables_of r

    third : Has e (map cancelled_entry t.cancelled) ⊎ Has e (map cancel_entry (filter is_void t.cancels)) → (w : Write) × Has w r.known × (entry_of (place_row r w) ≡ Some e)
    third (inl g) =
        let (row, a, s) = map_has cancelled_entry e t.cancelled g in
        let (w, k, o) = known_of as_cancelled r row a in
        (w, k, ap entry_of (cancelled_is row (place_row r w) o) ∙ ap Some (sym s))
    third (inr g) =
        let (row, a, s) = map_has cancel_entry e (filter is_void t.cancels) g in
        let (b, v) = filter_has is_void row t.cancels a in
        let (w, k, o) = known_of as_cancel r row b in
        (w, k, ap entry_of (cancel_is row (place_row r w) o) ∙ cond-true (is_void row) (Some (cancel_entry row)) None v ∙ ap Some (sym s))

    second : Has e (map error_entry t.errorlog) ⊎ Has e (map cancelled_entry t.cancelled ++ map cancel_entry (filter is_void t.cancels))
        → (w : Write) × Has w r.known × (entry_of (place_row r w) ≡ Some e)
    second (inl g) =
        let (row, a, s) = map_has error_entry e t.errorlog g in
        let (w, k, o) = known_of as_error r row a in
        (w, k, ap entry_of (erred_is row (place_row r w) o) ∙ ap Some (sym s))
    second (inr g) = third (has_split e (map cancelled_entry t.cancelled) (map cancel_entry (filter is_void t.cancels)) g)

    first : Has e (map booking_entry t.booking) ⊎ Has e (map error_entry t.errorlog ++ (map cancelled_entry t.cancelled ++ map cancel_entry (filter is_void t.cancels)))
        → (w : Write) × Has w r.known × (entry_of (place_row r w) ≡ Some e)
    first (inl g) =
        let (row, a, s) = map_has booking_entry e t.booking g in
        let (w, k, o) = known_of as_booking r row a in
        (w, k, ap entry_of (booked_is row (place_row r w) o) ∙ ap Some (sym s))
    first (inr g) = second (has_split e (map error_entry t.errorlog) (map cancelled_entry t.cancelled ++ map cancel_entry (filter is_void t.cancels)) g)

-- and each known write that has one has it there
known_entry : (r : Replica) (w : Write) (e : Id × Row) → IsReplica r → Has w r.known → entry_of (place_row r w) ≡ Some e → Has e (all_entries (tables_of r))
known_entry r w e h k s = go (place_row r w) refl
  where
    t : Tables
    t = tables_of r

    bs : List (Id × Row)
    bs = map booking_entry t.booking

    es : List (Id × Row)
    es = map error_entry t.errorlog

    cs : List (Id × Row)
    cs = map cancelled_entry t.cancelled

    vs : List (Id × Row)
    vs = map cancel_entry (filter is_void t.cancels)

    void : (row : CancelRow) → place_row r w ≡ Cancel row → (b : Bool) → is_void row ≡ b → cond b (Some (cancel_entry row)) None ≡ Some e → Has e (bs ++ (es ++ (cs ++ vs)))
    void row p true v f =
        has_right e bs (es ++ (cs ++ vs)) (has_right e es (cs ++ vs) (has_right e cs vs
        (subst (λ x. Has x vs) (some_inj (cancel_entry row) e f)
        (has_map cancel_entry row (filter is_void t.cancels) (has_filter is_void row t.cancels v (of_known as_cancel r row h w k (ap as_cancel p)))))))
    void row p false v f = absurd (none_some e f)

    go : (q : PlaceRow) → place_row r w ≡ q → Has e (bs ++ (es ++ (cs ++ vs)))
    go (Booked row) p =
        has_left e bs (es ++ (cs ++ vs))
        (subst (λ x. Has x bs) (some_inj (booking_entry row) e (sym (ap entry_of p) ∙ s)) (has_map booking_entry row t.booking (of_known as_booking r row h w k (ap as_booking p))))
    go (Erred row) p =
        has_right e bs (es ++ (cs ++ vs)) (has_left e es (cs ++ vs)
        (subst (λ x. Has x es) (some_inj (error_entry row) e (sym (ap entry_of p) ∙ s)) (has_map error_entry row t.errorlog (of_known as_error r row h w k (ap as_error p)))))
    go (Cancelled row) p =
        has_right e bs (es ++ (cs ++ vs)) (has_right e es (cs ++ vs) (has_left e cs vs
        (subst (λ x. Has x cs) (some_inj (cancelled_entry row) e (sym (ap entry_of p) ∙ s)) (has_map cancelled_entry row t.cancelled (of_known as_cancelled r row h w k (ap as_cancelled p))))))
    go (Cancel row) p = void row p (is_void row) refl (sym (ap entry_of p) ∙ s)

-- ---- rows looked up by their ids

put-keeps : (o : Option Row) (q : Id) (es : List (Id × Row)) (b : Rows) → ((e : Id × Row) → Has e es → e.0 ≡ q → Some e.1 ≡ o) → row_at b q ≡ o → row_at (put_entries es b) q ≡ o
put-keeps o q [] b f s = s
put-keeps o q (e ∷ es) b f s = put-keeps o q es (insert_entry id_cmp b e.0 e.1) (λ x g. f x (inr g)) (row_at-put b e.0 e.1 q ∙ go (same_id q e.0) refl)
  where
    go : (c : Bool) → same_id q e.0 ≡ c → cond c (Some e.1) (row_at b q) ≡ o
    go true c = f e (inl refl) (sym (same_id-true q e.0 c))
    go false c = s

put-finds : (o : Option Row) (q : Id) (es : List (Id × Row)) (b : Rows) (e : Id × Row) → ((x : Id × Row) → Has x es → x.0 ≡ q → Some x.1 ≡ o) → Has e es → e.0 ≡ q → row_at (put_entries es b) q ≡ o
put-finds o q [] b e f h k = absurd h
put-finds o q (x ∷ xs) b e f (inl s) k =
    let here : x.0 ≡ q = ap (λ (y : Id × Row). y.0) (sym s) ∙ k in
    put-keeps o q xs (insert_entry id_cmp b x.0 x.1) (λ y g. f y (inr g))
    (row_at-put b x.0 x.1 q ∙ cond-true (same_id q x.0) (Some x.1) (row_at b q) (same_id_from q x.0 (sym here)) ∙ f x (inl refl) here)
put-finds o q (x ∷ xs) b e f (inr h) k = put-finds o q xs (insert_entry id_cmp b x.0 x.1) e (λ y g. f y (inr g)) h k

entry_is : (r : Replica) (w : Write) (e : Id × Row) → IsReplica r → Has w r.known → Has e (all_entries (tables_of r)) → e.0 ≡ id_of w → Some e.1 ≡ known_row r w
entry_is r w e h a g k =
    let (v, b, s) = entry_known r e g in
    let parts = entry_parts r v e s in
    parts.1 ∙ ap (known_row r) (one_known r v w h b a (parts.0 ∙ k))

pub known_at : (r : Replica) (w : Write) → IsReplica r → Has w r.known → row_at (board_of (tables_of r)) (id_of w) ≡ known_row r w
known_at r w h a = ap (λ b. row_at b (id_of w)) (sym (board-entries (tables_of r))) ∙ go (known_row r w) refl
  where
    go : (o : Option Row) → known_row r w ≡ o → row_at (put_entries (all_entries (tables_of r)) []) (id_of w) ≡ known_row r w
    go None k = put-keeps (known_row r w) (id_of w) (all_entries (tables_of r)) [] (λ e g s. entry_is r w e h a g s) (sym k)
    go (Some row) k =
        put-finds (known_row r w) (id_of w) (all_entries (tables_of r)) [] (id_of w, row) (λ e g s. entry_is r w e h a g s)
        (known_entry r w (id_of w, row) h a (known-entry r w ∙ ap (entry_with (id_of w)) k)) refl

pub unknown_at : (r : Replica) (q : Id) → ((w : Write) → Has w r.known → id_of w ≡ q → ⊥) → row_at (board_of (tables_of r)) q ≡ None
unknown_at r q f =
    ap (λ b. row_at b q) (sym (board-entries (tables_of r)))
    ∙ put-keeps None q (all_entries (tables_of r)) [] (λ e g k. let (v, b, s) = entry_known r e g in absurd (f v b ((entry_parts r v e s).0 ∙ k))) refl

-- ---- what is told of a room's list

abbrev fate_row : Option Fate → Option Row
fate_row None = None
fate_row (Some f) = row_of f.write f.place f.cancelled_by

abbrev fate_at : Id → List Fate → Option Row
fate_at i fs = fate_row (find (λ f. same_id (id_of f.write) i) fs)

row_in-fates : (i : Id) (ts : List Told) → row_in ts i ≡ fate_at i (map fate_of ts)
row_in-fates i [] = refl
row_in-fates i (t ∷ ts) = go (same_id (id_of t.write) i) (row_in-fates i ts)
  where
    go : (c : Bool) → row_in ts i ≡ fate_at i (map fate_of ts) → row_if (cond c (Some t) (told_of i ts)) ≡ fate_row (cond c (Some (fate_of t)) (find (λ f. same_id (id_of f.write) i) (map fate_of ts)))
    go true e = refl
    go false e = e

-- marks aside, it is what the replica tells of the room
row-told : (r : Replica) (room : Text) (i : Id) → row_in (told_list (of_room room (order_of r))) i ≡ row_in (room_list r room) i
row-told r room i =
    row_in-fates i (told_list (of_room room (order_of r)))
    ∙ ap (fate_at i) (fates_by_order (record { known = true; committed = []; tentative = of_room room (order_of r) })
    (view_of r room) (filter-append (λ w. bytes_eq w.room room) (committed r) (tentative r)))
    ∙ sym (row_in-fates i (whole_list (view_of r room))) ∙ ap (λ ts. row_in ts i) (room-list r room)

told_known : (r : Replica) (w : Write) → IsReplica r → Has w r.known → row_in (room_list r w.room) (id_of w) ≡ known_row r w
told_known r w h a =
    let (t, g, e) = known_told r w h a in
    let k = told_of_room r w.room t h g in
    let back : w ≡ t.write = sym e in
    let there : told_of (id_of w) (room_list r w.room) ≡ told_of (id_of w) (whole_list (view_of r w.room)) = ap (told_of (id_of w)) (sym (room-list r w.room)) in
    let found : told_of (id_of w) (room_list r w.room) ≡ Some t = there ∙ (λ j. told_of (id_of (back j)) (whole_list (view_of r (back j).room))) ∙ k.is_told in
    let place = sym k.place in
    let by = sym k.cancelled in
    ap row_if found ∙ (λ j. row_of t.write (place j) (by j)) ∙ ap (known_row r) e

told_none : (r : Replica) (room : Text) (i : Id) → IsReplica r → ((w : Write) → Has w r.known → w.room ≡ room → id_of w ≡ i → ⊥) → row_in (room_list r room) i ≡ None
told_none r room i h f = go (told_of i (room_list r room)) refl
  where
    go : (o : Option Told) → told_of i (room_list r room) ≡ o → row_in (room_list r room) i ≡ None
    go None e = ap row_if e
    go (Some t) e =
        let p = find_has (λ (u : Told). same_id (id_of u.write) i) t (room_list r room) e in
        let k = told_of_room r room t h p.0 in
        absurd (f t.write k.known k.in_room (same_id-true (id_of t.write) i p.1))

-- ---- the board holds the order

pub known_or_none : (i : Id) (ws : List Write) → ((w : Write) × Has w ws × (id_of w ≡ i)) ⊎ ((w : Write) → Has w ws → id_of w ≡ i → ⊥)
known_or_none i [] = inr (λ w h e. absurd h)
known_or_none i (x ∷ xs) = go (same_id (id_of x) i) refl (known_or_none i xs)
  where
    go : (c : Bool) → same_id (id_of x) i ≡ c → ((w : Write) × Has w xs × (id_of w ≡ i)) ⊎ ((w : Write) → Has w xs → id_of w ≡ i → ⊥)
        → ((w : Write) × Has w (x ∷ xs) × (id_of w ≡ i)) ⊎ ((w : Write) → Has w (x ∷ xs) → id_of w ≡ i → ⊥)
    go true c rest = inl (x, inl refl, same_id-true (id_of x) i c)
    go false c (inl (w, h, e)) = inl (w, inr h, e)
    go false c (inr f) = inr each
      where
        each : (w : Write) → Has w (x ∷ xs) → id_of w ≡ i → ⊥
        each w (inl s) e = true≢false (sym (same_id_from (id_of x) i (ap id_of (sym s) ∙ e)) ∙ c)
        each w (inr h) e = f w h e

-- a row of a room is that room's, and of no other
own_row : (room : Text) (w : Write) (o : Option Trace) → bytes_eq w.room room ≡ true
    → if_of room (option_map (λ k. record { room = w.room; trace = k }) o) ≡ option_map (λ k. record { room = w.room; trace = k }) o
own_row room w None e = refl
own_row room w (Some k) e = cond-true (bytes_eq w.room room) (Some (record { room = w.room; trace = k })) None e

other_row : (room : Text) (w : Write) (o : Option Trace) → bytes_eq w.room room ≡ false → if_of room (option_map (λ k. record { room = w.room; trace = k }) o) ≡ None
other_row room w None e = refl
other_row room w (Some k) e = ap (λ c. cond c (Some (record { room = w.room; trace = k })) None) e

holds_in : (r : Replica) (room : Text) → IsReplica r → HoldsIn room (of_room room (order_of r)) (board_of (tables_of r))
holds_in r room h i = go (known_or_none i r.known)
  where
    board : Rows
    board = board_of (tables_of r)

    known : (w : Write) → Has w r.known → id_of w ≡ i → row_at board i ≡ known_row r w
    known w a e = ap (row_at board) (sym e) ∙ known_at r w h a

    in_room : (w : Write) → Has w r.known → id_of w ≡ i → (c : Bool) → bytes_eq w.room room ≡ c → if_of room (row_at board i) ≡ row_in (told_list (of_room room (order_of r))) i
    in_room w a e true c =
        ap (if_of room) (known w a e) ∙ own_row room w (trace_for w w.action (place_of r w) (canceller_of r w)) c ∙ sym (told_known r w h a)
        ∙ (let same = room_true w room c in λ j. row_in (room_list r (same j)) (e j)) ∙ sym (row-told r room i)
    in_room w a e false c =
        ap (if_of room) (known w a e) ∙ other_row room w (trace_for w w.action (place_of r w) (canceller_of r w)) c
        ∙ sym (told_none r room i h (λ v b s k. true≢false (sym (room_from w room (ap (λ (x : Write). x.room) (sym (one_known r v w h b a (k ∙ sym e))) ∙ s)) ∙ c)))
        ∙ sym (row-told r room i)

    go : ((w : Write) × Has w r.known × (id_of w ≡ i)) ⊎ ((w : Write) → Has w r.known → id_of w ≡ i → ⊥) → if_of room (row_at board i) ≡ row_in (told_list (of_room room (order_of r))) i
    go (inl (w, a, e)) = in_room w a e (bytes_eq w.room room) refl
    go (inr f) = ap (if_of room) (unknown_at r i f) ∙ sym (told_none r room i h (λ w a s e. f w a e)) ∙ sym (row-told r room i)

pub entries_ordered : (es : List (Id × Row)) (b : Rows) → IsInOrder b → IsInOrder (put_entries es b)
entries_ordered [] b h = h
entries_ordered (e ∷ es) b h = entries_ordered es (insert_entry id_cmp b e.0 e.1) (in_order-put b e.0 e.1 h)

pub board_told : (r : Replica) → IsReplica r → Holds (order_of r) (board_of (tables_of r))
board_told r h = record {
  ordered = subst IsInOrder (board-entries (tables_of r)) (entries_ordered (all_entries (tables_of r)) [] Holds-empty.ordered);
  rooms = λ room. holds_in r room h;
}
