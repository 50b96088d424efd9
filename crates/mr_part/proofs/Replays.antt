-- A board that has the rows of some rooms, or their bookings: the last writes of all these rooms undone on it, and others executed.
use Rattle.std.proofs.Common.{◌≡◌, refl, sym, ap, ◌∙◌, subst, Bool, true, false, cond, List, [], ◌∷◌, ◌++◌, map, inl, Option, Some, None, append_assoc, append-nil}
use Rattle.std.proofs.lemmas.Bool.{true≢false, cond-true}
use Rattle.std.proofs.lemmas.List.{length-map, map-append}
use Rattle.std.proofs.lemmas.List.Elements.{filter-append}
use Rattle.std.specs.Str.{bytes_eq}
use Rattle.mr_model.specs.Texts.{Text}
use Rattle.mr_model.specs.Writes.{Id, Write, id_of, same_id}
use Rattle.mr_model.specs.Replay.{Place, place_among, booked_with, replay_among, replay}
use Rattle.mr_model.specs.Board.{after}
use Rattle.mr_model.specs.Replica.{Replica, IsReplica, is_among, order_of}
use Rattle.mr_model.specs.View.{of_room, cancels_it, place_of}
use Rattle.mr_model.specs.Dropped.{Has}
use Rattle.mr_model.proofs.DroppedApart.{order_known}
use Rattle.mr_model.proofs.KnownById.{one_known}
use Rattle.mr_model.proofs.Members.{has_left, has_right, filter_has, map_has, not_among, same_id-true}
use Rattle.mr_model.proofs.Orders.{append_split}
use Rattle.mr_model.proofs.PlacesOfOrder.{room-replay}
use Rattle.mr_model.proofs.RoomsApart.{replay-append}
use Rattle.mr_model.proofs.UniqueReplay.{length-replay}
use Rattle.mr_replay.specs.declared.rows.Standing.TheVariants.{Booked, CancelledBy, InErrorLog}
use Rattle.mr_replay.specs.declared.rows.Trace.{Trace}
use Rattle.mr_replay.specs.declared.rows.Trace.TheVariants.{OfBooking, OfCancel}
use Rattle.mr_replay.specs.declared.rows.Row.{Row}
use Rattle.mr_replay.specs.Places.{UndoRow}
use Rattle.mr_replay.specs.Rows.{Rows, row_at, bookings_of, row_of, place_by_rows, with_mark, without_mark, target_of, executed, undo_row_at, undone, executed_all, undone_all, undo_rows_of}
use Rattle.mr_replay.specs.Holds.{HaveDistinctIds, told_list, row_in, bears, if_of}
use Rattle.mr_replay.specs.Bookings.{if_taken, HasBookings}
use Rattle.mr_replay.proofs.Entries.{IsInOrder}
use Rattle.mr_replay.proofs.Lists.{one_name, same_name, distinct_front, distinct_next, distinct-part, part-own, part-other}
use Rattle.mr_replay.proofs.Marked.{change_if}
use Rattle.mr_replay.proofs.OneRoom.{IsPart, taken_part, bookings_part, bears_not-taken, PartHas, part-executed, part-undone, part_has-executed, part_has-undone}
use Rattle.mr_replay.proofs.OneRoom.{takes_away, row-own, in_order-executed, in_order-undone, cancels_booked, row-other, target_row, if_of-apart, apart_names}
use Rattle.mr_replay.proofs.PlacesOnBoard.{place_by_bookings}
use Rattle.mr_replay.proofs.ToldRows.{BearsNot, rows-none, rows-bear}
use Rattle.mr_part.specs.Logged.{undo_with}
use Rattle.mr_part.proofs.OrderNumbers.{order_distinct}

-- ---- rows of rooms

-- ---- what is looked at of a room

-- what is seen of a room on the board, and what its list gives: all rows, or the bookings
pub record IsView (see : Text → Option Row → Option Row) (given : Option Row → Option Row) : Type 0 where
  pub part : (room : Text) → IsPart (see room)
  pub given_part : IsPart given
  pub own : (room : Text) (w : Write) (p : Place) → w.room ≡ room → see room (row_of w p None) ≡ given (row_of w p None)
  pub other : (room : Text) (w : Write) (p : Place) → bytes_eq w.room room ≡ false → see room (row_of w p None) ≡ None
  pub apart : (room other : Text) (o : Option Row) (row : Row) → if_of room o ≡ Some row → bytes_eq other room ≡ false → see other o ≡ None
  pub bearing : (c : Id) (o : Option Row) → BearsNot c o → BearsNot c (given o)
  pub bookings : (room : Text) (ws : List Write) (b : Rows) → PartHas (see room) given ws b → HasBookings room ws b

pub bookings_view : IsView (λ room o. if_taken (if_of room o)) if_taken
bookings_view = record {
  part = bookings_part;
  given_part = taken_part;
  own = λ room w p e. ap if_taken (row-own room w p e);
  other = λ room w p e. ap if_taken (row-other room w p e);
  apart = λ room other o row e f. ap if_taken (if_of-apart room other o row e f);
  bearing = bears_not-taken;
  bookings = λ room ws b has. has;
}

-- what bears no mark of a cancel stays when that is taken away
unmarked : (c : Id) (k : Trace) → bears c k ≡ false → without_mark c k ≡ k
unmarked c (OfBooking s l t Booked) h = refl
unmarked c (OfBooking s l t (CancelledBy d)) h = ap (λ x. OfBooking s l t (cond x Booked (CancelledBy d))) h
unmarked c (OfBooking s l t InErrorLog) h = refl
unmarked c (OfCancel t) h = refl

stays-unmarked : (c : Id) (x : Bool) (o : Option Row) → BearsNot c o → change_if (without_mark c) x o ≡ o
stays-unmarked c false o h = refl
stays-unmarked c true None h = refl
stays-unmarked c true (Some row) h = let kept = unmarked c row.trace h in λ i. Some (record { room = row.room; trace = kept i })

-- ---- a write of another room

module _ (see : Text → Option Row → Option Row) (given : Option Row → Option Row) (v : IsView see given) where
  gone : (room : Text) (ws : List Write) (b : Rows) (i : Id) → is_among i (map id_of ws) ≡ false → PartHas (see room) given ws b → see room (row_at b i) ≡ None
  gone room ws b i new has = has i ∙ ap given (rows-none ws i new) ∙ v.given_part.none

  not_own : (room : Text) (b : Rows) (i q : Id) → see room (row_at b i) ≡ None → cond (same_id q i) None (see room (row_at b q)) ≡ see room (row_at b q)
  not_own room b i q none = go (same_id q i) refl
    where
      go : (c : Bool) → same_id q i ≡ c → cond c None (see room (row_at b q)) ≡ see room (row_at b q)
      go true e = sym (ap (λ j. see room (row_at b j)) (same_id-true q i e) ∙ none)
      go false e = refl

  pub beside-executed : (room : Text) (ws : List Write) (b : Rows) (w : Write) → bytes_eq w.room room ≡ false → IsInOrder b
      → is_among (id_of w) (map id_of ws) ≡ false → PartHas (see room) given ws b → PartHas (see room) given ws (executed b w)
  beside-executed room ws b w away ordered new has q =
      part-executed (see room) (v.part room) b w (place_by_rows b w) q none
      ∙ ap (λ o. cond (same_id q (id_of w)) o (change_if (with_mark (id_of w)) (cancels_it q w.action (place_by_rows b w)) (see room (row_at b q)))) (v.other room w (place_by_rows b w) away)
      ∙ ap (cond (same_id q (id_of w)) None) (marked (cancels_it q w.action (place_by_rows b w)) refl)
      ∙ not_own room b (id_of w) q none
      ∙ has q
    where
      none : see room (row_at b (id_of w)) ≡ None
      none = gone room ws b (id_of w) new has

      -- what it takes back is of its own room
      marked : (c : Bool) → cancels_it q w.action (place_by_rows b w) ≡ c → change_if (with_mark (id_of w)) c (see room (row_at b q)) ≡ see room (row_at b q)
      marked false e = refl
      marked true e =
          let (row, at) = target_row b w.room q ordered (cancels_booked (bookings_of w.room b) w.action q e) in
          let away_too = v.apart w.room room (row_at b q) row at (apart_names w.room room away) in
          ap (change_if (with_mark (id_of w)) true) away_too ∙ sym away_too

  pub beside-undone : (room : Text) (ws : List Write) (b : Rows) (w : Write) (p : Place) → IsInOrder b
      → is_among (id_of w) (map id_of ws) ≡ false → PartHas (see room) given ws b → PartHas (see room) given ws (undone b (undo_row_at w p))
  beside-undone room ws b w p ordered new has q =
      part-undone (see room) (v.part room) b (id_of w) w.action p q ordered
      ∙ (λ t. cond (takes_away w.action p) (not_own room b (id_of w) q (gone room ws b (id_of w) new has) t) (stays-unmarked (id_of w) (cancels_it q w.action p) (see room (row_at b q)) bare t))
      ∙ both (takes_away w.action p) (see room (row_at b q))
      ∙ has q
    where
      bare : BearsNot (id_of w) (see room (row_at b q))
      bare = subst (BearsNot (id_of w)) (sym (has q)) (v.bearing (id_of w) (row_in (told_list ws) q) (rows-bear ws (id_of w) q new))

      both : (c : Bool) (o : Option Row) → cond c o o ≡ o
      both true o = refl
      both false o = refl

-- ---- the last writes of all rooms

-- the place of a write in its room is that after those before it
place_next : (r : Replica) (room : Text) (front rest : List Write) (w : Write) → IsReplica r → of_room room (order_of r) ≡ front ++ w ∷ rest → place_of r w ≡ place_among (after [] front) w
place_next r room front rest w sound e =
    let all : map (place_of r) front ++ map (place_of r) (w ∷ rest) ≡ replay front ++ replay_among (after [] front) (w ∷ rest) =
    sym (map-append (place_of r) front (w ∷ rest)) ∙ ap (map (place_of r)) (sym e) ∙ room-replay r room sound ∙ ap replay e ∙ replay-append [] front (w ∷ rest) in
    let behind = (append_split (map (place_of r) front) (replay front) (map (place_of r) (w ∷ rest))
    (replay_among (after [] front) (w ∷ rest)) (length-map front (place_of r) ∙ sym (length-replay [] front)) all).1 in
    let heads : place_of r w ∷ map (place_of r) rest ≡ place_among (after [] front) w ∷ replay_among (booked_with (after [] front) w (place_among (after [] front) w)) rest = behind in
    cc

-- these writes of a replica stand last in the lists of their rooms, which are among those that are looked at
pub record StandLast (r : Replica) (mine : Text → Bool) (front : Text → List Write) (ws : List Write) : Type 0 where
  pub sound : IsReplica r
  pub lists : (room : Text) → of_room room (order_of r) ≡ front room ++ of_room room ws
  pub known : (w : Write) → Has w ws → Has w r.known
  pub mine_all : (w : Write) → Has w ws → mine w.room ≡ true

module _ (r : Replica) (mine : Text → Bool) (front : Text → List Write) (ws : List Write) (last : StandLast r mine front ws) where
  -- the writes of a room up to some of the last ones
  abbrev pub upto : Text → List Write → List Write
  upto room done = front room ++ of_room room done

  abbrev pub rows : List Write → List UndoRow
  rows vs = map (undo_with (place_of r)) vs

  list : (room : Text) (done rest : List Write) → done ++ rest ≡ ws → of_room room (order_of r) ≡ upto room done ++ of_room room rest
  list room done rest parts =
      last.lists room ∙ ap (λ vs. front room ++ of_room room vs) (sym parts) ∙ ap (λ vs. front room ++ vs) (filter-append (λ (v : Write). bytes_eq v.room room) done rest)
      ∙ sym (append_assoc (front room) (of_room room done) (of_room room rest))

  distinct : (room : Text) → HaveDistinctIds (of_room room (order_of r))
  distinct room = distinct-part room (order_of r) (order_distinct r last.sound)

  module _ (done : List Write) (w : Write) (rest : List Write) (parts : done ++ w ∷ rest ≡ ws) where
    there : Has w ws
    there = subst (λ vs. Has w vs) parts (has_right w done (w ∷ rest) (inl refl))

    own_list : (room : Text) → w.room ≡ room → of_room room (order_of r) ≡ upto room done ++ w ∷ of_room room rest
    own_list room is = list room done (w ∷ rest) parts ∙ ap (λ vs. upto room done ++ vs) (cond-true (bytes_eq w.room room) (w ∷ of_room room rest) (of_room room rest) (same_name w.room room is))

    own_ids : (room : Text) → w.room ≡ room → HaveDistinctIds (upto room done ++ w ∷ of_room room rest)
    own_ids room is = subst (λ (vs : List Write). HaveDistinctIds vs) (own_list room is) (distinct room)

    place : (room : Text) → w.room ≡ room → place_of r w ≡ place_among (after [] (upto room done)) w
    place room is = place_next r room (upto room done) (of_room room rest) w last.sound (own_list room is)

    -- no write of another room has its id
    new : (room : Text) → bytes_eq w.room room ≡ false → is_among (id_of w) (map id_of (upto room done)) ≡ false
    new room other = not_among (id_of w) (map id_of (upto room done)) (λ h. clash (map_has id_of (id_of w) (upto room done) h))
      where
        clash : ((v : Write) × Has v (upto room done) × (id_of w ≡ id_of v)) → ⊥
        clash (v, h, s) =
            let f = filter_has (λ (u : Write). bytes_eq u.room room) v (order_of r)
            (subst (λ vs. Has v vs) (sym (list room done (w ∷ rest) parts)) (has_left v (upto room done) (of_room room (w ∷ rest)) h)) in
            let same : w ≡ v = one_known r w v last.sound (last.known w there) (order_known r v last.sound f.0) s in
            true≢false (sym (ap (λ (u : Write). bytes_eq u.room room) same ∙ f.1) ∙ other)

    more : (room : Text) → w.room ≡ room → upto room (done ++ w ∷ []) ≡ upto room done ++ w ∷ []
    more room is = ap (λ vs. front room ++ vs) (part-own room done w is) ∙ sym (append_assoc (front room) (of_room room done) (w ∷ []))

    same : (room : Text) → bytes_eq w.room room ≡ false → upto room (done ++ w ∷ []) ≡ upto room done
    same room away = ap (λ vs. front room ++ vs) (part-other room done w away)

  module _ (see : Text → Option Row → Option Row) (given : Option Row → Option Row) (v : IsView see given) where
    -- in each of the rooms the board has what these writes of it give
    abbrev pub HasAll : (Text → List Write) → Rows → Type 0
    HasAll lists b = (room : Text) → mine room ≡ true → PartHas (see room) given (lists room) b

    -- ---- undone

    undone-one : (done : List Write) (w : Write) (rest : List Write) (b : Rows) → done ++ w ∷ rest ≡ ws → IsInOrder b
        → HasAll (λ room. upto room (done ++ w ∷ [])) b → HasAll (λ room. upto room done) (undone b (undo_with (place_of r) w))
    undone-one done w rest b parts ordered has room m = by (bytes_eq w.room room) refl
      where
        by : (c : Bool) → bytes_eq w.room room ≡ c → PartHas (see room) given (upto room done) (undone b (undo_with (place_of r) w))
        by true e =
            let is = one_name w.room room e in
            subst (λ p. PartHas (see room) given (upto room done) (undone b (undo_row_at w p))) (sym (place done w rest parts room is))
            (part_has-undone (see room) given (v.part room) v.given_part (upto room done) b w v.bearing ordered
            (distinct_next (upto room done) w (of_room room rest) (own_ids done w rest parts room is))
            (subst (λ (vs : List Write). PartHas (see room) given vs b) (more done w rest parts room is) (has room m)))
        by false e =
            beside-undone see given v room (upto room done) b w (place_of r w) ordered (new done w rest parts room e)
            (subst (λ (vs : List Write). PartHas (see room) given vs b) (same done w rest parts room e) (has room m))

    in_order-rows : (vs : List Write) (b : Rows) → IsInOrder b → IsInOrder (undone_all b (rows vs))
    in_order-rows [] b h = h
    in_order-rows (w ∷ vs) b h = in_order-undone (id_of w) (place_of r w) (target_of w.action) (undone_all b (rows vs)) (in_order-rows vs b h)

    undone-rest : (done rest : List Write) (b : Rows) → done ++ rest ≡ ws → IsInOrder b → HasAll (λ room. upto room ws) b → HasAll (λ room. upto room done) (undone_all b (rows rest))
    undone-rest done [] b parts ordered has = subst (λ (vs : List Write). HasAll (λ room. upto room vs) b) (sym (sym (append-nil done) ∙ parts)) has
    undone-rest done (w ∷ rest) b parts ordered has =
        undone-one done w rest (undone_all b (rows rest)) parts (in_order-rows rest b ordered) (undone-rest (done ++ w ∷ []) rest b (append_assoc done (w ∷ []) rest ∙ parts) ordered has)

    -- once the last ones are undone, the last of all first, each room has what its first ones give
    pub rows-undone : (b : Rows) → IsInOrder b → HasAll (λ room. front room ++ of_room room ws) b → HasAll front (undone_all b (rows ws)) × IsInOrder (undone_all b (rows ws))
    rows-undone b ordered has = (
      λ room m. subst (λ (vs : List Write). PartHas (see room) given vs (undone_all b (rows ws))) (append-nil (front room)) (undone-rest [] ws b refl ordered has room m),
      in_order-rows ws b ordered,
    )

    -- ---- executed

    place-here : (done : List Write) (w : Write) (rest : List Write) (b : Rows) → done ++ w ∷ rest ≡ ws → IsInOrder b
        → HasAll (λ room. upto room done) b → place_by_rows b w ≡ place_among (after [] (upto w.room done)) w
    place-here done w rest b parts ordered has =
        place_by_bookings w.room (upto w.room done) b w refl ordered (distinct_front (upto w.room done) (w ∷ of_room w.room rest) (own_ids done w rest parts w.room refl))
        (v.bookings w.room (upto w.room done) b (has w.room (last.mine_all w (there done w rest parts))))

    executed-one : (done : List Write) (w : Write) (rest : List Write) (b : Rows) → done ++ w ∷ rest ≡ ws
        → IsInOrder b → HasAll (λ room. upto room done) b → HasAll (λ room. upto room (done ++ w ∷ [])) (executed b w)
    executed-one done w rest b parts ordered has room m = by (bytes_eq w.room room) refl
      where
        by : (c : Bool) → bytes_eq w.room room ≡ c → PartHas (see room) given (upto room (done ++ w ∷ [])) (executed b w)
        by true e =
            let is = one_name w.room room e in
            subst (λ (vs : List Write). PartHas (see room) given vs (executed b w)) (sym (more done w rest parts room is))
            (part_has-executed (see room) given (v.part room) v.given_part (upto room done) b w (v.own room w (place_by_rows b w) is)
            (place-here done w rest b parts ordered has ∙ ap (λ t. place_among (after [] (upto t done)) w) is)
            (distinct_next (upto room done) w (of_room room rest) (own_ids done w rest parts room is)) (has room m))
        by false e =
            subst (λ (vs : List Write). PartHas (see room) given vs (executed b w)) (sym (same done w rest parts room e))
            (beside-executed see given v room (upto room done) b w e ordered (new done w rest parts room e) (has room m))

    executed-rest : (done rest : List Write) (b : Rows) → done ++ rest ≡ ws → IsInOrder b → HasAll (λ room. upto room done) b
        → (map (λ u. u.place) (undo_rows_of b rest) ≡ map (place_of r) rest) × HasAll (λ room. upto room ws) (executed_all b rest) × IsInOrder (executed_all b rest)
    executed-rest done [] b parts ordered has = (refl, subst (λ (vs : List Write). HasAll (λ room. upto room vs) b) (sym (append-nil done) ∙ parts) has, ordered)
    executed-rest done (w ∷ rest) b parts ordered has =
        let here : place_by_rows b w ≡ place_of r w = place-here done w rest b parts ordered has ∙ sym (place done w rest parts w.room refl) in
        let later = executed-rest (done ++ w ∷ []) rest (executed b w) (append_assoc done (w ∷ []) rest ∙ parts)
        (in_order-executed b w (place_by_rows b w) ordered) (executed-one done w rest b parts ordered has) in
        (λ t. here t ∷ later.0 t, later.1, later.2)

    -- executed behind the first ones, the last ones get the places that the replica gives them, and each room has what all of it gives
    pub rows-executed : (b : Rows) → IsInOrder b → HasAll front b → (map (λ u. u.place) (undo_rows_of b ws) ≡ map (place_of r) ws)
        × HasAll (λ room. front room ++ of_room room ws) (executed_all b ws) × IsInOrder (executed_all b ws)
    rows-executed b ordered has = executed-rest [] ws b refl ordered (λ room m. subst (λ (vs : List Write). PartHas (see room) given vs b) (sym (append-nil (front room))) (has room m))
