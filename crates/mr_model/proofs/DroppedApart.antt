-- The order of a room in two parts, dropped writes and the others: where a write goes and which cancel took it back follow from its part,
-- but for dropped bookings, which later cancels may take back.
use Rattle.std.proofs.Common.{◌≡◌, refl, sym, ap, ◌∙◌, subst, true, false, List, [], ◌++◌, map, take, drop, ◌⊎◌, inl, inr, Some, append_assoc}
use Rattle.std.proofs.lemmas.Bool.{true≢false, false_from_ne_true}
use Rattle.std.proofs.lemmas.List.{map-append}
use Rattle.std.proofs.lemmas.List.Elements.{filter-append, filter_map-append}
use Rattle.std.proofs.lemmas.Slice.Eq.{bytes_eq-Decides}
use Rattle.std.specs.Prelude.{option_map}
use Rattle.std.specs.Str.{bytes_eq}
use Rattle.std.specs.List.{filter_map}
use Rattle.mr_model.specs.Dropped.{Has}
use Rattle.mr_model.specs.Texts.{Text}
use Rattle.mr_model.specs.Writes.{Id, Write, id_of, same_id}
use Rattle.mr_model.specs.Replay.{Booking}
use Rattle.mr_model.specs.Replica.{Replica, is_dropped, is_committed, write_with, committed, tentative, order_of, IsReplica}
use Rattle.mr_model.specs.Board.{after}
use Rattle.mr_model.specs.View.{Placed, of_room, cancel_of, placed_in, place_or_logged, place_of, canceller_of}
use Rattle.mr_model.specs.Kept.{dropped_in_order, kept_in_order, kept_committed}
use Rattle.mr_model.proofs.Members.{has_left, has_right, has_split, has_filter, filter_has, filter_map_has, has_filter_map, find_left, find_right}
use Rattle.mr_model.proofs.Members.{find_none, same_id-true, has_among, among_has, among_not, not_among, Distinct, distinct_parts, take_drop}
use Rattle.mr_model.proofs.KnownById.{with_id, known_with, committed_known, tentative_known, distinct_order, distinct_commits}
use Rattle.mr_model.proofs.PlacedInOrder.{placed_among, among-append, placed_id}
use Rattle.mr_model.proofs.PlacesOfOrder.{placed_has, has_placed, placed_here, placed-ids, distinct_filter, room_from, known_in_order}
use Rattle.mr_model.proofs.Runs.{run-among, never_done}
use Rattle.mr_model.proofs.Cancellers.{order_list, place-order, canceller-order, or_else, cancel-append}

-- ---- the parts of the order

pub committed-parts : (r : Replica) → committed r ≡ dropped_in_order r ++ kept_committed r
committed-parts r = ap (λ ids. filter_map (write_with r) ids) (sym (take_drop r.dropped r.commits)) ∙ filter_map-append (write_with r) (take r.dropped r.commits) (drop r.dropped r.commits)

pub order-parts : (r : Replica) → order_of r ≡ dropped_in_order r ++ kept_in_order r
order-parts r = ap (λ ws. ws ++ tentative r) (committed-parts r) ∙ append_assoc (dropped_in_order r) (kept_committed r) (tentative r)

-- a dropped id is committed
pub dropped_commit : (r : Replica) (id : Id) → is_dropped r id ≡ true → Has id r.commits
dropped_commit r id e = subst (λ is. Has id is) (take_drop r.dropped r.commits) (has_left id (take r.dropped r.commits) (drop r.dropped r.commits) (among_has id (take r.dropped r.commits) e))

pub not_committed_kept : (r : Replica) (id : Id) → is_committed r id ≡ false → is_dropped r id ≡ false
not_committed_kept r id e = false_from_ne_true (is_dropped r id) (λ d. among_not id r.commits e (dropped_commit r id d))

-- a kept commit is not dropped
pub kept_id : (r : Replica) (id : Id) → IsReplica r → Has id (drop r.dropped r.commits) → is_dropped r id ≡ false
kept_id r id h a =
    let parts = distinct_parts (take r.dropped r.commits) (drop r.dropped r.commits) (subst Distinct (sym (take_drop r.dropped r.commits)) (distinct_commits r h)) in
    not_among id (take r.dropped r.commits) (λ g. parts.2 id g a)

pub dropped_known : (r : Replica) (w : Write) → Has w (dropped_in_order r) → Has w r.known × (is_dropped r (id_of w) ≡ true)
dropped_known r w a =
    let (id, b, e) = filter_map_has (write_with r) w (take r.dropped r.commits) a in
    let k = known_with r id w e in
    (k.0, has_among (id_of w) (take r.dropped r.commits) (subst (λ i. Has i (take r.dropped r.commits)) (sym k.1) b))

pub known_dropped : (r : Replica) (w : Write) → IsReplica r → Has w r.known → is_dropped r (id_of w) ≡ true → Has w (dropped_in_order r)
known_dropped r w h a e = has_filter_map (write_with r) (id_of w) w (take r.dropped r.commits) (with_id r w (id_of w) h a refl) (among_has (id_of w) (take r.dropped r.commits) e)

-- a kept write is known and not dropped
pub kept_known : (r : Replica) (w : Write) → IsReplica r → Has w (kept_in_order r) → Has w r.known × (is_dropped r (id_of w) ≡ false)
kept_known r w h a = go (has_split w (kept_committed r) (tentative r) a)
  where
    go : Has w (kept_committed r) ⊎ Has w (tentative r) → Has w r.known × (is_dropped r (id_of w) ≡ false)
    go (inl b) =
        let (id, c, e) = filter_map_has (write_with r) w (drop r.dropped r.commits) b in
        let k = known_with r id w e in
        (k.0, ap (is_dropped r) k.1 ∙ kept_id r id h c)
    go (inr b) = let t = tentative_known r w b in (t.0, not_committed_kept r (id_of w) t.1)

-- and a known write that isn't dropped is kept
pub known_kept : (r : Replica) (w : Write) → IsReplica r → Has w r.known → is_dropped r (id_of w) ≡ false → Has w (kept_in_order r)
known_kept r w h a d = go (known_in_order r w h a)
  where
    front : Has w (dropped_in_order r) ⊎ Has w (kept_committed r) → Has w (kept_in_order r)
    front (inl b) = absurd (true≢false (sym (dropped_known r w b).1 ∙ d))
    front (inr b) = has_left w (kept_committed r) (tentative r) b

    go : Has w (committed r) ⊎ Has w (tentative r) → Has w (kept_in_order r)
    go (inl b) = front (has_split w (dropped_in_order r) (kept_committed r) (subst (λ ws. Has w ws) (committed-parts r) b))
    go (inr b) = has_right w (kept_committed r) (tentative r) b

pub order_known : (r : Replica) (w : Write) → IsReplica r → Has w (order_of r) → Has w r.known
order_known r w h a = go (has_split w (committed r) (tentative r) a)
  where
    go : Has w (committed r) ⊎ Has w (tentative r) → Has w r.known
    go (inl g) = (committed_known r w h g).0
    go (inr g) = (tentative_known r w g).0

pub known_order : (r : Replica) (w : Write) → IsReplica r → Has w r.known → Has w (order_of r)
known_order r w h a = go (known_in_order r w h a)
  where
    go : Has w (committed r) ⊎ Has w (tentative r) → Has w (order_of r)
    go (inl g) = has_left w (committed r) (tentative r) g
    go (inr g) = has_right w (committed r) (tentative r) g

-- ---- the parts of a room's order

abbrev pub dropped_board : Replica → Text → List Booking
dropped_board r room = after [] (of_room room (dropped_in_order r))

abbrev pub dropped_list : Replica → Text → List Placed
dropped_list r room = placed_among false [] (of_room room (dropped_in_order r))

-- the others, executed on these bookings
abbrev pub later_from : Text → List Booking → List Write → List Placed
later_from room bs ws = placed_among false bs (of_room room ws)

abbrev pub later_list : Replica → Text → List Placed
later_list r room = later_from room (dropped_board r room) (kept_in_order r)

pub list-parts : (r : Replica) (room : Text) → order_list r room ≡ dropped_list r room ++ later_list r room
list-parts r room =
    ap (λ ws. placed_among false [] (of_room room ws)) (order-parts r)
    ∙ ap (placed_among false []) (filter-append (λ w. bytes_eq w.room room) (dropped_in_order r) (kept_in_order r))
    ∙ among-append false [] (of_room room (dropped_in_order r)) (of_room room (kept_in_order r))

-- the writes of the parts
pub dropped_placed : (r : Replica) (room : Text) (p : Placed) → Has p (dropped_list r room) → Has p.write r.known × (p.write.room ≡ room) × (is_dropped r (placed_id p) ≡ true)
dropped_placed r room p a =
    let w = placed_has false [] p (of_room room (dropped_in_order r)) a in
    let f = filter_has (λ v. bytes_eq v.room room) p.write (dropped_in_order r) w.0 in
    let k = dropped_known r p.write f.0 in
    (k.0, (bytes_eq-Decides p.write.room room).0 f.1, k.1)

pub later_placed : (r : Replica) (room : Text) (p : Placed) → IsReplica r → Has p (later_list r room) → Has p.write r.known × (is_dropped r (placed_id p) ≡ false)
later_placed r room p h a =
    let w = placed_has false (dropped_board r room) p (of_room room (kept_in_order r)) a in
    kept_known r p.write h (filter_has (λ v. bytes_eq v.room room) p.write (kept_in_order r) w.0).0

not_in_dropped : (r : Replica) (room : Text) (id : Id) → is_dropped r id ≡ false → (p : Placed) → Has p (dropped_list r room) → placed_id p ≡ id → ⊥
not_in_dropped r room id e p a s = true≢false (sym (dropped_placed r room p a).2 ∙ ap (is_dropped r) s ∙ e)

-- ---- a write that is not dropped

pub place-later : (r : Replica) (w : Write) → is_dropped r (id_of w) ≡ false → place_of r w ≡ place_or_logged (placed_in (id_of w) (later_list r w.room))
place-later r w e =
    place-order r w ∙ ap (λ ps. place_or_logged (placed_in (id_of w) ps)) (list-parts r w.room)
    ∙ ap place_or_logged (find_right (λ p. same_id (placed_id p) (id_of w)) (dropped_list r w.room) (later_list r w.room) (find_none (λ p. same_id (placed_id p) (id_of w))
    (dropped_list r w.room) (λ p a. false_from_ne_true (same_id (placed_id p) (id_of w)) (λ s. not_in_dropped r w.room (id_of w) e p a (same_id-true (placed_id p) (id_of w) s)))))

pub canceller-parts : (r : Replica) (w : Write) → IsReplica r → Has w r.known
    → canceller_of r w ≡ option_map placed_id (or_else (cancel_of (id_of w) (dropped_list r w.room)) (cancel_of (id_of w) (later_list r w.room)))
canceller-parts r w h a =
    canceller-order r w h a ∙ ap (λ ps. option_map placed_id (cancel_of (id_of w) ps)) (list-parts r w.room)
    ∙ ap (option_map placed_id) (cancel-append (id_of w) (dropped_list r w.room) (later_list r w.room))

pub canceller-later : (r : Replica) (w : Write) → IsReplica r → Has w r.known → is_dropped r (id_of w) ≡ false → canceller_of r w ≡ option_map placed_id (cancel_of (id_of w) (later_list r w.room))
canceller-later r w h a e =
    canceller-parts r w h a
    ∙ ap (λ o. option_map placed_id (or_else o (cancel_of (id_of w) (later_list r w.room))))
    (never_done (id_of w) [] (dropped_list r w.room) (run-among false [] (of_room w.room (dropped_in_order r))) (λ b x s. x) (not_in_dropped r w.room (id_of w) e))

-- ---- a dropped write

pub distinct_list : (r : Replica) (room : Text) → IsReplica r → Distinct (map placed_id (order_list r room))
distinct_list r room h =
    subst Distinct (sym (placed-ids false [] (of_room room (order_of r))))
    (distinct_filter (λ w. bytes_eq w.room room) (order_of r) (subst Distinct (sym (map-append id_of (committed r) (tentative r))) (distinct_order r h)))

pub dropped_distinct : (r : Replica) (room : Text) → IsReplica r → Distinct (map placed_id (dropped_list r room))
dropped_distinct r room h =
    (distinct_parts (map placed_id (dropped_list r room)) (map placed_id (later_list r room))
    (subst Distinct (map-append placed_id (dropped_list r room) (later_list r room)) (subst (λ ps. Distinct (map placed_id ps)) (list-parts r room) (distinct_list r room h)))).0

-- a dropped write with its place
pub dropped_here : (r : Replica) (w : Write) → IsReplica r → Has w r.known → is_dropped r (id_of w) ≡ true
    → (p : Placed) × Has p (dropped_list r w.room) × (p.write ≡ w) × (placed_in (id_of w) (dropped_list r w.room) ≡ Some p)
dropped_here r w h a e =
    let (p, g, s) = has_placed false [] w (of_room w.room (dropped_in_order r)) (has_filter (λ v. bytes_eq v.room w.room) w (dropped_in_order r) (room_from w w.room refl) (known_dropped r w h a e)) in
    (p, g, s, ap (λ (v : Write). placed_in (id_of v) (dropped_list r w.room)) (sym s) ∙ placed_here p (dropped_list r w.room) (dropped_distinct r w.room h) g)

pub place-dropped : (r : Replica) (w : Write) → IsReplica r → Has w r.known → is_dropped r (id_of w) ≡ true → place_of r w ≡ place_or_logged (placed_in (id_of w) (dropped_list r w.room))
place-dropped r w h a e =
    let (p, g, s, here) = dropped_here r w h a e in
    place-order r w ∙ ap (λ ps. place_or_logged (placed_in (id_of w) ps)) (list-parts r w.room)
    ∙ ap place_or_logged (find_left (λ q. same_id (placed_id q) (id_of w)) p (dropped_list r w.room) (later_list r w.room) here ∙ sym here)
