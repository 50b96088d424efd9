-- The places of a replica's writes, by room and in its order of execution.
use Rattle.std.proofs.Common.{◌≡◌, refl, sym, ap, ◌∙◌, subst, suc, Bool, true, false, not, cond, List, [], ◌∷◌, ◌++◌, length, map, drop, ◌⊎◌, inl, inr, Some, arith}
use Rattle.std.proofs.lemmas.Bool.{true≢false, cond-true, cond-false, false_from_ne_true}
use Rattle.std.proofs.lemmas.List.{map-append, length-map}
use Rattle.std.proofs.lemmas.List.Elements.{filter-append}
use Rattle.std.proofs.lemmas.Slice.Eq.{bytes_eq-Decides}
use Rattle.std.specs.Str.{bytes_eq}
use Rattle.std.specs.List.{filter}
use Rattle.mr_model.specs.Texts.{Text}
use Rattle.mr_model.specs.Writes.{Id, Write, id_of, same_id}
use Rattle.mr_model.specs.Replay.{Place, Booking, place_among, booked_with, replay_among, replay}
use Rattle.mr_model.specs.Replica.{Replica, is_committed, write_with, committed, tentative, order_of, IsReplica}
use Rattle.mr_model.specs.View.{of_room, view_of, Placed, whole_places, placed_in, place_or_logged, place_of}
use Rattle.mr_model.specs.Board.{after, RoomBooking, place_on, booked_on, replay_on, board_replay, places_of_room}
use Rattle.mr_model.specs.Dropped.{Has}
use Rattle.mr_model.proofs.Members.{has_left, has_right, has_split, has_filter, filter_has, has_map, map_has, has_filter_map}
use Rattle.mr_model.proofs.Members.{same_id-true, same_id_refl, has_among, among_has, among_not, not_among, Distinct}
use Rattle.mr_model.proofs.KnownById.{with_id, committed_known, tentative_known, distinct_order}
use Rattle.mr_model.proofs.RoomsApart.{replay-append, rooms_apart}
use Rattle.mr_model.proofs.PlacedInOrder.{placed_among, whole-places, placed_id}

pub placed-writes : (mark : Bool) (bs : List Booking) (ws : List Write) → map (λ t. t.write) (placed_among mark bs ws) ≡ ws
placed-writes mark bs [] = refl
placed-writes mark bs (w ∷ ws) = ap (λ (vs : List Write). w ∷ vs) (placed-writes mark (booked_with bs w (place_among bs w)) ws)

pub placed-ids : (mark : Bool) (bs : List Booking) (ws : List Write) → map placed_id (placed_among mark bs ws) ≡ map id_of ws
placed-ids mark bs [] = refl
placed-ids mark bs (w ∷ ws) = ap (λ (is : List Id). id_of w ∷ is) (placed-ids mark (booked_with bs w (place_among bs w)) ws)

-- ---- what is told of an id

pub placed_here : (t : Placed) (ts : List Placed) → Distinct (map placed_id ts) → Has t ts → placed_in (placed_id t) ts ≡ Some t
placed_here t [] d h = absurd h
placed_here t (x ∷ xs) d (inl e) =
    cond-true (same_id (placed_id x) (placed_id t)) (Some x) (placed_in (placed_id t) xs) (subst (λ y. same_id (placed_id y) (placed_id t) ≡ true) e (same_id_refl (placed_id t))) ∙ ap Some (sym e)
placed_here t (x ∷ xs) d (inr h) =
    cond-false (same_id (placed_id x) (placed_id t)) (Some x) (placed_in (placed_id t) xs)
    (false_from_ne_true (same_id (placed_id x) (placed_id t))
    (λ e. among_not (placed_id x) (map placed_id xs) d.0 (subst (λ i. Has i (map placed_id xs)) (sym (same_id-true (placed_id x) (placed_id t) e)) (has_map placed_id t xs h))))
    ∙ placed_here t xs d.1 h

-- ---- filtered lists of writes with different ids

pub distinct_filter : (p : Write → Bool) (ws : List Write) → Distinct (map id_of ws) → Distinct (map id_of (filter p ws))
distinct_filter p [] d = tt
distinct_filter p (w ∷ ws) d = go (p w) (distinct_filter p ws d.1)
  where
    go : (b : Bool) → Distinct (map id_of (filter p ws)) → Distinct (map id_of (cond b (w ∷ filter p ws) (filter p ws)))
    go true r = (
      not_among (id_of w) (map id_of (filter p ws)) (λ h. let (v, g, e) = map_has id_of (id_of w) (filter p ws) h in
          among_not (id_of w) (map id_of ws) d.0 (subst (λ i. Has i (map id_of ws)) (sym e) (has_map id_of v ws (filter_has p v ws g).0))),
      r,
    )
    go false r = r

-- what is told of a room
abbrev pub room_places : Replica → Text → List Placed
room_places r room = placed_among true [] (of_room room (committed r)) ++ placed_among false (after [] (of_room room (committed r))) (of_room room (tentative r))

pub room-places : (r : Replica) (room : Text) → whole_places (view_of r room) ≡ room_places r room
room-places r room = whole-places (view_of r room)

pub distinct_room : (r : Replica) (room : Text) → IsReplica r → Distinct (map placed_id (room_places r room))
distinct_room r room h =
    subst Distinct (sym (
    map-append placed_id (placed_among true [] cs) (placed_among false (after [] cs) ts)
    ∙ ap (λ is. is ++ map placed_id (placed_among false (after [] cs) ts)) (placed-ids true [] cs)
    ∙ ap (λ is. map id_of cs ++ is) (placed-ids false (after [] cs) ts)
    ∙ sym (map-append id_of cs ts)
    ∙ ap (λ ws. map id_of ws) (sym (filter-append (λ w. bytes_eq w.room room) (committed r) (tentative r)))))
    (distinct_filter (λ w. bytes_eq w.room room) (order_of r) (subst Distinct (sym (map-append id_of (committed r) (tentative r))) (distinct_order r h)))
  where
    cs : List Write
    cs = of_room room (committed r)

    ts : List Write
    ts = of_room room (tentative r)

-- ---- what is told of a write

-- a known write with its mark and its place
abbrev pub placed : Replica → Write → Placed
placed r w = record { write = w; is_committed = is_committed r (id_of w); place = place_of r w }

pub placed_has : (mark : Bool) (bs : List Booking) (t : Placed) (ws : List Write) → Has t (placed_among mark bs ws) → Has t.write ws × (t.is_committed ≡ mark)
placed_has mark bs t [] h = absurd h
placed_has mark bs t (w ∷ ws) (inl e) = (inl (ap (λ (u : Placed). u.write) e), ap (λ (u : Placed). u.is_committed) e)
placed_has mark bs t (w ∷ ws) (inr h) = let p = placed_has mark (booked_with bs w (place_among bs w)) t ws h in (inr p.0, p.1)

pub has_placed : (mark : Bool) (bs : List Booking) (w : Write) (ws : List Write) → Has w ws → (t : Placed) × Has t (placed_among mark bs ws) × (t.write ≡ w)
has_placed mark bs w ws h =
    let (t, g, e) = map_has (λ (u : Placed). u.write) w (placed_among mark bs ws) (subst (λ vs. Has w vs) (sym (placed-writes mark bs ws)) h) in
    (t, g, sym e)

pub room_true : (w : Write) (room : Text) → bytes_eq w.room room ≡ true → w.room ≡ room
room_true w room e = (bytes_eq-Decides w.room room).0 e

pub room_from : (w : Write) (room : Text) → w.room ≡ room → bytes_eq w.room room ≡ true
room_from w room e = (bytes_eq-Decides w.room room).1 e

place_placed : (r : Replica) (room : Text) (t : Placed) → IsReplica r → Has t (room_places r room) → t.write.room ≡ room → place_of r t.write ≡ t.place
place_placed r room t h a e =
    ap (λ x. place_or_logged (placed_in (id_of t.write) (whole_places (view_of r x)))) e
    ∙ ap (λ ts. place_or_logged (placed_in (id_of t.write) ts)) (room-places r room)
    ∙ ap place_or_logged (placed_here t (room_places r room) (distinct_room r room h) a)

-- all that is told of a room is of its known writes
pub room_placed : (r : Replica) (room : Text) (t : Placed) → IsReplica r → Has t (room_places r room) → (t ≡ placed r t.write) × Has t.write r.known × (t.write.room ≡ room)
room_placed r room t h a = go (has_split t (placed_among true [] cs) (placed_among false (after [] cs) ts) a)
  where
    cs : List Write
    cs = of_room room (committed r)

    ts : List Write
    ts = of_room room (tentative r)

    same : t.write.room ≡ room → t.is_committed ≡ is_committed r (id_of t.write) → t ≡ placed r t.write
    same e m = let p = sym (place_placed r room t h a e) in λ i. record { write = t.write; is_committed = m i; place = p i }

    go : Has t (placed_among true [] cs) ⊎ Has t (placed_among false (after [] cs) ts) → (t ≡ placed r t.write) × Has t.write r.known × (t.write.room ≡ room)
    go (inl g) =
        let p = placed_has true [] t cs g in
        let f = filter_has (λ w. bytes_eq w.room room) t.write (committed r) p.0 in
        let k = committed_known r t.write h f.0 in
        let e = room_true t.write room f.1 in
        (same e (p.1 ∙ sym (has_among (id_of t.write) r.commits k.1)), k.0, e)
    go (inr g) =
        let p = placed_has false (after [] cs) t ts g in
        let f = filter_has (λ w. bytes_eq w.room room) t.write (tentative r) p.0 in
        let k = tentative_known r t.write f.0 in
        let e = room_true t.write room f.1 in
        (same e (p.1 ∙ sym k.1), k.0, e)

-- a known write is committed, and then among those, or tentative
pub known_in_order : (r : Replica) (w : Write) → IsReplica r → Has w r.known → Has w (committed r) ⊎ Has w (tentative r)
known_in_order r w h a = go (is_committed r (id_of w)) refl
  where
    go : (b : Bool) → is_committed r (id_of w) ≡ b → Has w (committed r) ⊎ Has w (tentative r)
    go true e = inl (has_filter_map (write_with r) (id_of w) w r.commits (with_id r w (id_of w) h a refl) (among_has (id_of w) r.commits e))
    go false e = inr (has_filter (λ v. not (is_committed r (id_of v))) w r.known (ap not e) a)

-- and each known write is told of in its room
pub placed_room : (r : Replica) (w : Write) → IsReplica r → Has w r.known → Has (placed r w) (room_places r w.room)
placed_room r w h a = go (known_in_order r w h a)
  where
    cs : List Write
    cs = of_room w.room (committed r)

    ts : List Write
    ts = of_room w.room (tentative r)

    as_told : (t : Placed) → Has t (room_places r w.room) → t.write ≡ w → Has (placed r w) (room_places r w.room)
    as_told t g e = subst (λ u. Has u (room_places r w.room)) ((room_placed r w.room t h g).0 ∙ ap (placed r) e) g

    go : Has w (committed r) ⊎ Has w (tentative r) → Has (placed r w) (room_places r w.room)
    go (inl g) =
        let (t, i, e) = has_placed true [] w cs (has_filter (λ v. bytes_eq v.room w.room) w (committed r) (room_from w w.room refl) g) in
        as_told t (has_left t (placed_among true [] cs) (placed_among false (after [] cs) ts) i) e
    go (inr g) =
        let (t, i, e) = has_placed false (after [] cs) w ts (has_filter (λ v. bytes_eq v.room w.room) w (tentative r) (room_from w w.room refl) g) in
        as_told t (has_right t (placed_among true [] cs) (placed_among false (after [] cs) ts) i) e

map_back : {A B : Type 0} (f : B → A) (g : A → B) (xs : List A) → ((x : A) → Has x xs → x ≡ f (g x)) → xs ≡ map f (map g xs)
map_back f g [] e = refl
map_back f g (x ∷ xs) e = let a = e x (inl refl) in let b = map_back f g xs (λ y h. e y (inr h)) in λ i. a i ∷ b i

pub room-placed : (r : Replica) (room : Text) → IsReplica r → room_places r room ≡ map (placed r) (of_room room (order_of r))
room-placed r room h =
    map_back (placed r) (λ (t : Placed). t.write) (room_places r room) (λ t a. (room_placed r room t h a).0)
    ∙ ap (map (placed r)) (map-append (λ (t : Placed). t.write) (placed_among true [] cs) (placed_among false (after [] cs) ts)
    ∙ ap (λ ws. ws ++ map (λ (t : Placed). t.write) (placed_among false (after [] cs) ts)) (placed-writes true [] cs)
    ∙ ap (λ ws. cs ++ ws) (placed-writes false (after [] cs) ts)
    ∙ sym (filter-append (λ w. bytes_eq w.room room) (committed r) (tentative r)))
  where
    cs : List Write
    cs = of_room room (committed r)

    ts : List Write
    ts = of_room room (tentative r)

-- ---- the places of a replica's writes are those of its order on the board

pub length-replay_on : (board : List RoomBooking) (ws : List Write) → length (replay_on board ws) ≡ length ws
length-replay_on board [] = refl
length-replay_on board (w ∷ ws) = ap suc (length-replay_on (booked_on board w (place_on board w)) ws)

places-of_map : (room : Text) (f : Write → Place) (ws : List Write) → places_of_room room ws (map f ws) ≡ map f (of_room room ws)
places-of_map room f [] = refl
places-of_map room f (w ∷ ws) = go (bytes_eq w.room room) (places-of_map room f ws)
  where
    go : (b : Bool) → places_of_room room ws (map f ws) ≡ map f (of_room room ws)
        → cond b (f w ∷ places_of_room room ws (map f ws)) (places_of_room room ws (map f ws)) ≡ map f (cond b (w ∷ of_room room ws) (of_room room ws))
    go true ih = ap (λ ps. f w ∷ ps) ih
    go false ih = ih

by_rooms : (ws : List Write) (ps qs : List Place) → length ps ≡ length ws → length qs ≡ length ws → ((room : Text) → places_of_room room ws ps ≡ places_of_room room ws qs) → ps ≡ qs
by_rooms [] [] [] a b f = refl
by_rooms [] (p ∷ ps) qs a b f = absurd (let t : suc (length ps) ≡ 0 = a in omega (arith, t))
by_rooms [] [] (q ∷ qs) a b f = absurd (let t : suc (length qs) ≡ 0 = b in omega (arith, t))
by_rooms (w ∷ ws) [] qs a b f = absurd (let t : 0 ≡ suc (length ws) = a in omega (arith, t))
by_rooms (w ∷ ws) (p ∷ ps) [] a b f = absurd (let t : 0 ≡ suc (length ws) = b in omega (arith, t))
by_rooms (w ∷ ws) (p ∷ ps) (q ∷ qs) a b f =
    let la : suc (length ps) ≡ suc (length ws) = a in
    let lb : suc (length qs) ≡ suc (length ws) = b in
    let here : p ≡ q = first (bytes_eq w.room w.room) ((bytes_eq-Decides w.room w.room).1 refl) (f w.room) in
    let rest : ps ≡ qs = by_rooms ws ps qs (omega (arith, la)) (omega (arith, lb)) (λ room. later room (bytes_eq w.room room) (f room)) in
    λ i. here i ∷ rest i
  where
    first : (c : Bool) → c ≡ true → cond c (p ∷ places_of_room w.room ws ps) (places_of_room w.room ws ps) ≡ cond c (q ∷ places_of_room w.room ws qs) (places_of_room w.room ws qs) → p ≡ q
    first true t e = let g : p ∷ places_of_room w.room ws ps ≡ q ∷ places_of_room w.room ws qs = e in cc
    first false t e = absurd (true≢false (sym t))

    later : (room : Text) (c : Bool) → cond c (p ∷ places_of_room room ws ps) (places_of_room room ws ps) ≡ cond c (q ∷ places_of_room room ws qs) (places_of_room room ws qs)
        → places_of_room room ws ps ≡ places_of_room room ws qs
    later room true e = let g : p ∷ places_of_room room ws ps ≡ q ∷ places_of_room room ws qs = e in ap (λ (xs : List Place). drop 1 xs) g
    later room false e = e

placed-places : (mark : Bool) (bs : List Booking) (ws : List Write) → map (λ t. t.place) (placed_among mark bs ws) ≡ replay_among bs ws
placed-places mark bs [] = refl
placed-places mark bs (w ∷ ws) = ap (λ (ps : List Place). place_among bs w ∷ ps) (placed-places mark (booked_with bs w (place_among bs w)) ws)

map-map : {A B C : Type 0} (f : A → B) (g : B → C) (xs : List A) → map g (map f xs) ≡ map (λ x. g (f x)) xs
map-map f g [] = refl
map-map f g (x ∷ xs) = ap (λ ys. g (f x) ∷ ys) (map-map f g xs)

pub room-replay : (r : Replica) (room : Text) → IsReplica r → map (place_of r) (of_room room (order_of r)) ≡ replay (of_room room (order_of r))
room-replay r room h =
    sym (map-map (placed r) (λ (t : Placed). t.place) (of_room room (order_of r)))
    ∙ ap (map (λ (t : Placed). t.place)) (sym (room-placed r room h))
    ∙ map-append (λ (t : Placed). t.place) (placed_among true [] cs) (placed_among false (after [] cs) ts)
    ∙ ap (λ ps. ps ++ map (λ (t : Placed). t.place) (placed_among false (after [] cs) ts)) (placed-places true [] cs)
    ∙ ap (λ ps. replay_among [] cs ++ ps) (placed-places false (after [] cs) ts)
    ∙ sym (replay-append [] cs ts) ∙ ap replay (sym (filter-append (λ w. bytes_eq w.room room) (committed r) (tentative r)))
  where
    cs : List Write
    cs = of_room room (committed r)

    ts : List Write
    ts = of_room room (tentative r)

-- the places of a replica's writes are those that its order has on the board
pub order-places : (r : Replica) → IsReplica r → map (place_of r) (order_of r) ≡ board_replay (order_of r)
order-places r h =
    by_rooms (order_of r) (map (place_of r) (order_of r)) (board_replay (order_of r)) (length-map (order_of r) (place_of r)) (length-replay_on [] (order_of r))
    (λ room. places-of_map room (place_of r) (order_of r) ∙ room-replay r room h ∙ sym (rooms_apart room [] (order_of r)))

-- functions that map a list alike are the same at its elements
pub map_at : {A B : Type 0} (f g : A → B) (x : A) (xs : List A) → map f xs ≡ map g xs → Has x xs → f x ≡ g x
map_at f g x [] e h = absurd h
map_at f g x (y ∷ ys) e (inl s) = let k : f y ∷ map f ys ≡ g y ∷ map g ys = e in let here : f y ≡ g y = (cc) in ap f s ∙ here ∙ ap g (sym s)
map_at f g x (y ∷ ys) e (inr h) = map_at f g x ys (let k : f y ∷ map f ys ≡ g y ∷ map g ys = e in (cc)) h

pub append_parts : {A : Type 0} (xs ys : List A) (x y : A) → length xs ≡ length ys → xs ++ x ∷ [] ≡ ys ++ y ∷ [] → (xs ≡ ys) × (x ≡ y)
append_parts [] [] x y l e = (refl, (let k : x ∷ [] ≡ y ∷ [] = e in cc))
append_parts [] (b ∷ bs) x y l e = absurd (let t : 0 ≡ suc (length bs) = l in omega (arith, t))
append_parts (a ∷ as_) [] x y l e = absurd (let t : suc (length as_) ≡ 0 = l in omega (arith, t))
append_parts (a ∷ as_) (b ∷ bs) x y l e =
    let t : suc (length as_) ≡ suc (length bs) = l in
    let k : a ∷ (as_ ++ x ∷ []) ≡ b ∷ (bs ++ y ∷ []) = e in
    let here : a ≡ b = (cc) in
    let there : as_ ++ x ∷ [] ≡ bs ++ y ∷ [] = (cc) in
    let p = append_parts as_ bs x y (omega (arith, t)) there in
    ((λ i. here i ∷ p.0 i), p.1)
