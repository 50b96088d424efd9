-- Replicas that differ in dropped writes alone have equal tables.
use Rattle.std.proofs.Common.{◌≡◌, refl, sym, ap, ◌∙◌, subst, ℕ, ◌+◌, Bool, true, false, cond, ◌||◌, eqb, List, [], ◌∷◌, ◌++◌, length, take, drop, inl, inr, Option, Some, None, arith}
use Rattle.std.proofs.lemmas.Bool.{true≢false, cond-true, cond-false}
use Rattle.std.proofs.lemmas.List.{length-take}
use Rattle.std.specs.Prelude.{flat_map, option_map}
use Rattle.std.specs.List.{filter_map}
use Rattle.mr_model.specs.Texts.{Text, numbers_on}
use Rattle.mr_model.specs.Slots.{Slot}
use Rattle.mr_model.specs.Writes.{Id, Write, id_of, length_of}
use Rattle.mr_model.specs.Replay.{Booking, slot_at, booking_of}
use Rattle.mr_model.specs.Board.{after}
use Rattle.mr_model.specs.Replica.{Replica, is_among, is_committed, is_dropped, write_with, tentative, IsReplica}
use Rattle.mr_model.specs.View.{Placed, Told, of_room, cancel_of, tell, placed_of, placed_in, place_or_logged, place_of, canceller_of, booking_unless, booked_told}
use Rattle.mr_model.specs.Tables.{PlaceRow, by_id, seq_among, seq_of, vector_row, log_row_with, log_row, place_row_for, place_row, as_booking, as_error, as_cancelled, as_cancel, tables_of}
use Rattle.mr_model.specs.Queries.{row_room}
use Rattle.mr_model.specs.Dropped.{Has, DifferInDropped}
use Rattle.mr_model.specs.Kept.{dropped_in_order, kept_in_order, kept_committed}
use Rattle.mr_model.proofs.UniqueReplay.{some_inj, none_some}
use Rattle.mr_model.proofs.Members.{find_has, take_drop}
use Rattle.mr_model.proofs.KnownById.{partner, with_known}
use Rattle.mr_model.proofs.PlacedInOrder.{placed_among, placed_id, booked_by-among, told-stand}
use Rattle.mr_model.proofs.PlacesOfOrder.{placed_here}
use Rattle.mr_model.proofs.CalendarsShow.{has_flat}
use Rattle.mr_model.proofs.RoomTold.{told_id, told_placed, placed_told}
use Rattle.mr_model.proofs.Runs.{run-among}
use Rattle.mr_model.proofs.Cancellers.{told_whole, or_else}
use Rattle.mr_model.proofs.MembersAlike.{SameMembers, among_alike}
use Rattle.mr_model.proofs.DroppedApart.{dropped_board, dropped_list, later_from, later_list, kept_id, dropped_placed, later_placed}
use Rattle.mr_model.proofs.DroppedApart.{dropped_here, dropped_distinct, place-later, place-dropped, canceller-parts, canceller-later}
use Rattle.mr_model.proofs.RowsById.{Paired, rows_from_pairs, map_filter, seq_behind, flat_has}
use Rattle.mr_model.proofs.RowsTell.{one_row}
use Rattle.mr_model.proofs.RowCancels.{row_booking, row_by, made, made_at, row-made, row-cancel}
use Rattle.mr_model.proofs.TablesTell.{kept_log}
use Rattle.mr_model.proofs.Orders.{filter_map_same, among-append}

pub flat_map_same : {A B : Type 0} (f g : A → List B) (xs : List A) → ((x : A) → Has x xs → f x ≡ g x) → flat_map f xs ≡ flat_map g xs
flat_map_same f g [] e = refl
flat_map_same f g (x ∷ xs) e = ap (λ ys. ys ++ flat_map f xs) (e x (inl refl)) ∙ ap (λ ys. g x ++ ys) (flat_map_same f g xs (λ y h. e y (inr h)))

pub committed-or : (r : Replica) (id : Id) → is_committed r id ≡ (is_dropped r id || is_among id (drop r.dropped r.commits))
committed-or r id = ap (is_among id) (sym (take_drop r.dropped r.commits)) ∙ among-append id (take r.dropped r.commits) (drop r.dropped r.commits)

pub twin_turned : (a b : Replica) → DifferInDropped a b → DifferInDropped b a
twin_turned a b d =
    record {
      server = sym d.server;
      primary = sym d.primary;
      commits = sym d.commits;
      dropped = sym d.dropped;
      rooms = sym d.rooms;
      clock = sym d.clock;
      counts = λ s. sym (d.counts s);
      last_times = λ s. sym (d.last_times s);
      committed_counts = λ s. sym (d.committed_counts s);
      kept_commits = sym d.kept_commits;
      dropped_ids = λ id. sym (d.dropped_ids id);
      kept_writes = λ id e. sym (d.kept_writes id (d.dropped_ids id ∙ e));
      tentative = sym d.tentative;
      rows = λ x y h g e f. sym (d.rows y x g h (sym e) (d.dropped_ids (id_of y) ∙ ap (is_dropped b) (sym e) ∙ f));
    }

-- ---- dropped writes on the board

-- the cancel among dropped writes that took a dropped booking back
abbrev pub dropped_cancel : Replica → Write → Option Placed
dropped_cancel r w = cancel_of (id_of w) (dropped_list r w.room)

-- the bookings after dropped writes are those that no dropped cancel took back
pub after-told : (ws : List Write) → after [] ws ≡ flat_map booked_told (tell (placed_among false [] ws))
after-told ws = sym (booked_by-among false [] ws) ∙ told-stand [] (placed_among false [] ws)

told_dropped : (r : Replica) (room : Text) (t : Told) → IsReplica r → Has t (tell (dropped_list r room)) → t.cancelled_by ≡ cancel_of (told_id t) (dropped_list r room)
told_dropped r room t h g = told_whole [] (dropped_list r room) (run-among false [] (of_room room (dropped_in_order r))) (λ q i b x s. x) (dropped_distinct r room h) t g

-- the place of a dropped write is that of its list
dropped_place : (r : Replica) (room : Text) (t : Told) → IsReplica r → Has t (tell (dropped_list r room)) → place_of r t.write ≡ t.place
dropped_place r room t h g =
    let p = told_placed (dropped_list r room) t g in
    let k = dropped_placed r room (placed_of t) p in
    place-dropped r t.write h k.0 k.2 ∙ ap (λ x. place_or_logged (placed_in (told_id t) (dropped_list r x))) k.1
    ∙ ap place_or_logged (placed_here (placed_of t) (dropped_list r room) (dropped_distinct r room h) p)

record OnBoard (r : Replica) (room : Text) (b : Booking) : Type 0 where
  write : Write
  known : Has write r.known
  in_room : write.room ≡ room
  gone : is_dropped r (id_of write) ≡ true
  booked : made r write ≡ Some b
  stands : dropped_cancel r write ≡ None

on_board : (r : Replica) (room : Text) (b : Booking) → IsReplica r → Has b (dropped_board r room) → OnBoard r room b
on_board r room b h a =
    let (t, g, i) = flat_has booked_told b (tell (dropped_list r room)) (subst (λ bs. Has b bs) (after-told (of_room room (dropped_in_order r))) a) in
    let k = dropped_placed r room (placed_of t) (told_placed (dropped_list r room) t g) in
    go t g k t.cancelled_by refl i
  where
    made_of : (w : Write) (o : Option Slot) → Has b (booking_of w o) → made_at w o ≡ Some b
    made_of w None x = absurd x
    made_of w (Some s) (inl e) = ap Some (sym e)
    made_of w (Some s) (inr x) = absurd x

    go : (t : Told) → Has t (tell (dropped_list r room)) → Has t.write r.known × (t.write.room ≡ room) × (is_dropped r (told_id t) ≡ true)
        → (c : Option Placed) → t.cancelled_by ≡ c → Has b (booking_unless c t.write t.place) → OnBoard r room b
    go t g k (Some c) e i = absurd i
    go t g k None e i =
        record {
          write = t.write;
          known = k.0;
          in_room = k.1;
          gone = k.2;
          booked = ap (λ p. made_at t.write (slot_at t.write p)) (dropped_place r room t h g) ∙ made_of t.write (slot_at t.write t.place) i;
          stands = ap (λ x. cancel_of (told_id t) (dropped_list r x)) k.1 ∙ sym (told_dropped r room t h g) ∙ e;
        }

board_on : (r : Replica) (room : Text) (b : Booking) → IsReplica r → OnBoard r room b → Has b (dropped_board r room)
board_on r room b h o =
    let (p, g, s, here) = dropped_here r o.write h o.known o.gone in
    let (t, i, f) = placed_told (dropped_list r o.write.room) p g in
    let same : t.write ≡ o.write = ap (λ (x : Placed). x.write) f ∙ s in
    let none : t.cancelled_by ≡ None = told_dropped r o.write.room t h i ∙ ap (λ (w : Write). cancel_of (id_of w) (dropped_list r o.write.room)) same ∙ o.stands in
    let at : made_at t.write (slot_at t.write t.place) ≡ Some b = ap (λ q. made_at t.write (slot_at t.write q)) (sym (dropped_place r o.write.room t h i)) ∙ ap (made r) same ∙ o.booked in
    subst (λ x. Has b (dropped_board r x)) o.in_room
    (subst (λ bs. Has b bs) (sym (after-told (of_room o.write.room (dropped_in_order r))))
    (has_flat booked_told t b (tell (dropped_list r o.write.room)) i (subst (λ c. Has b (booking_unless c t.write t.place)) (sym none) (has_made t.write (slot_at t.write t.place) at))))
  where
    has_made : (w : Write) (o : Option Slot) → made_at w o ≡ Some b → Has b (booking_of w o)
    has_made w None e = absurd (none_some b e)
    has_made w (Some s) e = inl (sym (some_inj (record { id = id_of w; slot = s; length = length_of w }) b e))

-- ---- twins

-- two known writes with one id, and their equal rows
pub record Pair (a b : Replica) (x y : Write) : Type 0 where
  pub first : Has x a.known
  pub second : Has y b.known
  pub one_id : id_of x ≡ id_of y
  pub row : place_row a x ≡ place_row b y

pub pair_room : (a b : Replica) (x y : Write) → IsReplica a → IsReplica b → Pair a b x y → x.room ≡ y.room
pair_room a b x y ha hb p = sym (one_row a x ha p.first).2 ∙ ap row_room p.row ∙ (one_row b y hb p.second).2

pub pair_made : (a b : Replica) (x y : Write) → Pair a b x y → made a x ≡ made b y
pair_made a b x y p = sym (row-made a x) ∙ ap row_booking p.row ∙ row-made b y

pair_cancel : (a b : Replica) (x y : Write) (m : Booking) → Pair a b x y → made a x ≡ Some m → canceller_of a x ≡ canceller_of b y
pair_cancel a b x y m p e = sym (row-cancel a x m e) ∙ ap row_by p.row ∙ row-cancel b y m (sym (pair_made a b x y p) ∙ e)

-- of bookings that were made the cancels among dropped writes are the same
cancel_over : (a b : Replica) (x y : Write) (m : Booking) (c : Placed) → IsReplica a → IsReplica b
    → ((id : Id) → is_dropped a id ≡ is_dropped b id) → Pair a b x y → made a x ≡ Some m → dropped_cancel a x ≡ Some c
    → option_map placed_id (dropped_cancel b y) ≡ Some (placed_id c)
cancel_over a b x y m c ha hb ids p e f = go (dropped_cancel b y) refl (cancel_of (id_of y) (later_list b y.room)) refl
  where
    by : canceller_of b y ≡ Some (placed_id c)
    by =
        sym (pair_cancel a b x y m p e) ∙ canceller-parts a x ha p.first
        ∙ ap (λ o. option_map placed_id (or_else o (cancel_of (id_of x) (later_list a x.room)))) f

    gone : is_dropped b (placed_id c) ≡ true
    gone = sym (ids (placed_id c)) ∙ (dropped_placed a x.room c (find_has _ c (dropped_list a x.room) f).0).2

    go : (o : Option Placed) → dropped_cancel b y ≡ o → (l : Option Placed) → cancel_of (id_of y) (later_list b y.room) ≡ l → option_map placed_id o ≡ Some (placed_id c)
    go (Some d) g l k = sym (sym by ∙ canceller-parts b y hb p.second ∙ ap (λ o. option_map placed_id (or_else o (cancel_of (id_of y) (later_list b y.room)))) g)
    go None g None k = absurd (none_some (placed_id c) (sym (canceller-parts b y hb p.second ∙ (λ i. option_map placed_id (or_else (g i) (k i)))) ∙ by))
    go None g (Some d) k =
        let same : placed_id d ≡ placed_id c = some_inj (placed_id d) (placed_id c) (sym (canceller-parts b y hb p.second ∙ (λ i. option_map placed_id (or_else (g i) (k i)))) ∙ by) in
        absurd (true≢false (sym gone ∙ ap (is_dropped b) (sym same) ∙ (later_placed b y.room d hb (find_has _ d (later_list b y.room) k).0).1))

pub pair_turned : (a b : Replica) (x y : Write) → Pair a b x y → Pair b a y x
pair_turned a b x y p = record { first = p.second; second = p.first; one_id = sym p.one_id; row = sym p.row }

pub same_cancel : (a b : Replica) (x y : Write) (m : Booking) → IsReplica a → IsReplica b → ((id : Id) → is_dropped a id ≡ is_dropped b id) → Pair a b x y → made a x ≡ Some m
    → option_map placed_id (dropped_cancel a x) ≡ option_map placed_id (dropped_cancel b y)
same_cancel a b x y m ha hb ids p e = go (dropped_cancel a x) refl (dropped_cancel b y) refl
  where
    go : (o : Option Placed) → dropped_cancel a x ≡ o → (u : Option Placed) → dropped_cancel b y ≡ u → option_map placed_id (dropped_cancel a x) ≡ option_map placed_id (dropped_cancel b y)
    go (Some c) f u g = ap (option_map placed_id) f ∙ sym (cancel_over a b x y m c ha hb ids p e f)
    go None f (Some c) g = cancel_over b a y x m c hb ha (λ id. sym (ids id)) (pair_turned a b x y p) (sym (pair_made a b x y p) ∙ e) g ∙ sym (ap (option_map placed_id) g)
    go None f None g = ap (option_map placed_id) f ∙ sym (ap (option_map placed_id) g)

none_back : (o u : Option Placed) → option_map placed_id o ≡ option_map placed_id u → o ≡ None → u ≡ None
none_back o None e f = refl
none_back o (Some c) e f = absurd (none_some (placed_id c) (sym (ap (option_map placed_id) f) ∙ e))

board_over : (a b : Replica) (room : Text) (m : Booking) → IsReplica a → IsReplica b → DifferInDropped a b → Has m (dropped_board a room) → Has m (dropped_board b room)
board_over a b room m ha hb d h =
    let o = on_board a room m ha h in
    let (y, k, id) = partner a b o.write ha hb d.counts o.known in
    let p : Pair a b o.write y = record { first = o.known; second = k; one_id = sym id; row = d.rows o.write y o.known k (sym id) o.gone } in
    board_on b room m hb
    (record {
      write = y;
      known = k;
      in_room = sym (pair_room a b o.write y ha hb p) ∙ o.in_room;
      gone = ap (is_dropped b) id ∙ sym (d.dropped_ids (id_of o.write)) ∙ o.gone;
      booked = sym (pair_made a b o.write y p) ∙ o.booked;
      stands = none_back (dropped_cancel a o.write) (dropped_cancel b y) (same_cancel a b o.write y m ha hb d.dropped_ids p o.booked) o.stands;
    })

pub same_boards : (a b : Replica) (room : Text) → IsReplica a → IsReplica b → DifferInDropped a b → SameMembers (dropped_board a room) (dropped_board b room)
same_boards a b room ha hb d = λ m. (board_over a b room m ha hb d, board_over b a room m hb ha (twin_turned a b d))

-- ---- kept writes

pub same_kept_from : (a b : Replica) → IsReplica a → drop a.dropped a.commits ≡ drop b.dropped b.commits
    → ((id : Id) → is_dropped a id ≡ false → write_with a id ≡ write_with b id) → tentative a ≡ tentative b → kept_in_order a ≡ kept_in_order b
same_kept_from a b ha commits writes tent =
    ap (λ ws. ws ++ tentative a)
    (filter_map_same (write_with a) (write_with b) (drop a.dropped a.commits) (λ id h. writes id (kept_id a id ha h)) ∙ ap (λ ids. filter_map (write_with b) ids) commits)
    ∙ ap (λ ws. kept_committed b ++ ws) tent

pub same_kept_order : (a b : Replica) → IsReplica a → DifferInDropped a b → kept_in_order a ≡ kept_in_order b
same_kept_order a b ha d = same_kept_from a b ha d.kept_commits d.kept_writes d.tentative

pub same_committed : (a b : Replica) (id : Id) → DifferInDropped a b → is_committed a id ≡ is_committed b id
same_committed a b id d =
    committed-or a id ∙ ap (λ c. c || is_among id (drop a.dropped a.commits)) (d.dropped_ids id)
    ∙ ap (λ ids. is_dropped b id || is_among id ids) d.kept_commits ∙ sym (committed-or b id)

pub same_later : (a b : Replica) (room : Text) → IsReplica a → IsReplica b → DifferInDropped a b → later_list a room ≡ later_list b room
same_later a b room ha hb d =
    among_alike false (dropped_board a room) (dropped_board b room) (of_room room (kept_in_order a)) (same_boards a b room ha hb d)
    ∙ ap (later_from room (dropped_board b room)) (same_kept_order a b ha d)

pub same_place : (a b : Replica) (w : Write) → IsReplica a → IsReplica b → DifferInDropped a b → is_dropped a (id_of w) ≡ false → place_of a w ≡ place_of b w
same_place a b w ha hb d e =
    place-later a w e ∙ ap (λ ps. place_or_logged (placed_in (id_of w) ps)) (same_later a b w.room ha hb d)
    ∙ sym (place-later b w (sym (d.dropped_ids (id_of w)) ∙ e))

same_canceller : (a b : Replica) (w : Write) → IsReplica a → IsReplica b → DifferInDropped a b → Has w a.known → Has w b.known → is_dropped a (id_of w) ≡ false → canceller_of a w ≡ canceller_of b w
same_canceller a b w ha hb d ka kb e =
    canceller-later a w ha ka e ∙ ap (λ ps. option_map placed_id (cancel_of (id_of w) ps)) (same_later a b w.room ha hb d)
    ∙ sym (canceller-later b w hb kb (sym (d.dropped_ids (id_of w)) ∙ e))

pub same_write_kept : (a b : Replica) (x y : Write) → IsReplica a → IsReplica b → DifferInDropped a b → Has x a.known → Has y b.known → id_of x ≡ id_of y → is_dropped a (id_of x) ≡ false → x ≡ y
same_write_kept a b x y ha hb d h g e n =
    some_inj x y (sym (with_known a x ha h) ∙ d.kept_writes (id_of x) n ∙ ap (write_with b) e ∙ with_known b y hb g)

length_front : (r : Replica) → IsReplica r → length (take r.dropped r.commits) ≡ r.dropped
length_front r h = let l = length-take r.dropped r.commits in let k = h.dropped_committed in omega (arith, l, k)

seq-later : (r : Replica) (w : Write) → IsReplica r → is_dropped r (id_of w) ≡ false → seq_of r w ≡ seq_among (1 + r.dropped) (drop r.dropped r.commits) (id_of w)
seq-later r w h e =
    ap (λ ids. seq_among 1 ids (id_of w)) (sym (take_drop r.dropped r.commits)) ∙ seq_behind 1 (take r.dropped r.commits) (drop r.dropped r.commits) (id_of w) e
    ∙ ap (λ n. seq_among (1 + n) (drop r.dropped r.commits) (id_of w)) (length_front r h)

pub same_seq : (a b : Replica) (w : Write) → IsReplica a → IsReplica b → DifferInDropped a b → is_dropped a (id_of w) ≡ false → seq_of a w ≡ seq_of b w
same_seq a b w ha hb d e =
    seq-later a w ha e ∙ ap (λ n. seq_among (1 + n) (drop a.dropped a.commits) (id_of w)) d.dropped
    ∙ ap (λ ids. seq_among (1 + b.dropped) ids (id_of w)) d.kept_commits ∙ sym (seq-later b w hb (sym (d.dropped_ids (id_of w)) ∙ e))

-- ---- rows of one id

pub same_row : (a b : Replica) → IsReplica a → IsReplica b → DifferInDropped a b → Paired a b (place_row a) (place_row b)
same_row a b ha hb d x y h g e = go (is_dropped a (id_of x)) refl
  where
    go : (c : Bool) → is_dropped a (id_of x) ≡ c → place_row a x ≡ place_row b y
    go true f = d.rows x y h g e f
    go false f =
        let same : x ≡ y = same_write_kept a b x y ha hb d h g e f in
        let p = same_place a b x ha hb d f in
        let c = same_canceller a b x ha hb d h (subst (λ w. Has w b.known) (sym same) g) f in
        let m = same_committed a b (id_of x) d in
        let n = same_seq a b x ha hb d f in
        (λ i. place_row_for x x.action (p i) (c i) (m i) (n i)) ∙ ap (place_row b) same

same_log_rows : (a b : Replica) → IsReplica a → IsReplica b → DifferInDropped a b → Paired a b (kept_log a) (kept_log b)
same_log_rows a b ha hb d x y h g e = go (is_dropped a (id_of x)) refl
  where
    there : is_dropped b (id_of y) ≡ is_dropped a (id_of x)
    there = ap (is_dropped b) (sym e) ∙ sym (d.dropped_ids (id_of x))

    go : (c : Bool) → is_dropped a (id_of x) ≡ c → kept_log a x ≡ kept_log b y
    go true f = cond-true (is_dropped a (id_of x)) None (Some (log_row a x)) f ∙ sym (cond-true (is_dropped b (id_of y)) None (Some (log_row b y)) (there ∙ f))
    go false f =
        let m = same_seq a b x ha hb d f in
        let p = same_place a b x ha hb d f in
        cond-false (is_dropped a (id_of x)) None (Some (log_row a x)) f
        ∙ (λ i. Some (log_row_with x (p i) (m i)))
        ∙ ap (λ w. Some (log_row b w)) (same_write_kept a b x y ha hb d h g e f)
        ∙ sym (cond-false (is_dropped b (id_of y)) None (Some (log_row b y)) (there ∙ f))

-- replicas that differ in dropped writes alone have equal tables
pub to_tables : (a b : Replica) → IsReplica a → IsReplica b → DifferInDropped a b → tables_of a ≡ tables_of b
to_tables a b ha hb d =
    λ i. record {
      meta = record { server = d.server i; primary = d.primary i; commits = d.commits i; dropped = d.dropped i; clock = d.clock i };
      room = d.rooms i;
      vector = vector i;
      log = log i;
      booking = table as_booking i;
      errorlog = table as_error i;
      cancelled = table as_cancelled i;
      cancels = table as_cancel i;
    }
  where
    entry : (s : ℕ) → vector_row a s ≡ vector_row b s
    entry s = let c = d.counts s in let l = d.last_times s in let m = d.committed_counts s in λ i. cond (eqb (c i) 0) [] (record { server = s; count = c i; last_time = l i; committed = m i } ∷ [])

    vector : (tables_of a).vector ≡ (tables_of b).vector
    vector = flat_map_same (vector_row a) (vector_row b) (numbers_on 1 99) (λ s h. entry s)

    log : (tables_of a).log ≡ (tables_of b).log
    log =
        map_filter (λ w. is_dropped a (id_of w)) (log_row a) (by_id a.known)
        ∙ rows_from_pairs a b (kept_log a) (kept_log b) ha hb d.counts (same_log_rows a b ha hb d)
        ∙ sym (map_filter (λ w. is_dropped b (id_of w)) (log_row b) (by_id b.known))

    table : {R : Type 0} (f : PlaceRow → Option R) → filter_map (λ w. f (place_row a w)) (by_id a.known) ≡ filter_map (λ w. f (place_row b w)) (by_id b.known)
    table f = rows_from_pairs a b (λ w. f (place_row a w)) (λ w. f (place_row b w)) ha hb d.counts (λ x y h g e. ap f (same_row a b ha hb d x y h g e))
