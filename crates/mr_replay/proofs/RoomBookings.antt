-- A board that has the bookings of a room, whatever else it has: undoing and executing writes of that room on it.
use Rattle.std.proofs.Common.{◌≡◌, ◌∙◌, List, [], ◌∷◌, ◌++◌, map, false, ap, sym, subst, append_assoc, append-nil}
use Rattle.mr_model.specs.Texts.{Text}
use Rattle.mr_model.specs.Writes.{Write, id_of}
use Rattle.mr_model.specs.Replay.{place_among, replay_among}
use Rattle.mr_model.specs.Board.{after}
use Rattle.mr_model.specs.Replica.{is_among}
use Rattle.mr_model.proofs.RoomsApart.{after-append}
use Rattle.mr_replay.specs.Places.{UndoRow}
use Rattle.mr_replay.specs.Rows.{Rows, place_by_rows, executed, undo_row_at, undo_rows_of, undone, executed_all, undone_all}
use Rattle.mr_replay.specs.Holds.{HaveDistinctIds, AreOfRoom, if_of, undo_rows_after}
use Rattle.mr_replay.specs.Bookings.{if_taken, HasBookings, CanReplayBookings}
use Rattle.mr_replay.proofs.Entries.{IsInOrder}
use Rattle.mr_replay.proofs.Lists.{distinct_front, distinct_next, of_room-front, of_room-back, of_room-append}
use Rattle.mr_replay.proofs.OneRoom.{taken_part, bookings_part, row-own, bears_not-taken, part_has-executed, part_has-undone, in_order-executed, in_order-undone}
use Rattle.mr_replay.proofs.Holding.{room_undo}
use Rattle.mr_replay.proofs.PlacesOnBoard.{place_by_bookings}

-- ---- one write of the room

pub HasBookings-executed : (room : Text) (ws : List Write) (b : Rows) (w : Write) → w.room ≡ room → IsInOrder b → HaveDistinctIds ws
    → is_among (id_of w) (map id_of ws) ≡ false → HasBookings room ws b → HasBookings room (ws ++ w ∷ []) (executed b w)
HasBookings-executed room ws b w is ordered distinct new has =
    part_has-executed (λ o. if_taken (if_of room o)) if_taken (bookings_part room) taken_part ws b w
    (ap if_taken (row-own room w (place_by_rows b w) is)) (place_by_bookings room ws b w is ordered distinct has) new has

pub HasBookings-undone : (room : Text) (ws : List Write) (b : Rows) (w : Write) → IsInOrder b → is_among (id_of w) (map id_of ws) ≡ false
    → HasBookings room (ws ++ w ∷ []) b → HasBookings room ws (undone b (undo_row_at w (place_among (after [] ws) w)))
HasBookings-undone room ws b w ordered new has = part_has-undone (λ o. if_taken (if_of room o)) if_taken (bookings_part room) taken_part ws b w bears_not-taken ordered new has

-- ---- several writes of the room

pub in_order-undone_all : (us : List UndoRow) (b : Rows) → IsInOrder b → IsInOrder (undone_all b us)
in_order-undone_all [] b h = h
in_order-undone_all (u ∷ us) b h = in_order-undone u.id u.place u.target (undone_all b us) (in_order-undone_all us b h)

-- the room's last writes undone
pub HasBookings-undone_all : (room : Text) (tail front : List Write) (b : Rows) → AreOfRoom room front → AreOfRoom room tail
    → HaveDistinctIds (front ++ tail) → IsInOrder b → HasBookings room (front ++ tail) b → HasBookings room front (undone_all b (undo_rows_after front tail))
HasBookings-undone_all room [] front b of_front of_tail distinct ordered has = subst (λ (ws : List Write). HasBookings room ws b) (append-nil front) has
HasBookings-undone_all room (w ∷ vs) front b of_front of_tail distinct ordered has =
    let joined : (front ++ w ∷ []) ++ vs ≡ front ++ w ∷ vs = append_assoc front (w ∷ []) vs in
    let rest : Rows = undone_all b (undo_rows_after (front ++ w ∷ []) vs) in
    subst (λ (u : UndoRow). HasBookings room front (undone rest u)) (sym (room_undo room w front of_tail.0 of_front))
    (HasBookings-undone room front rest w (in_order-undone_all (undo_rows_after (front ++ w ∷ []) vs) b ordered) (distinct_next front w vs distinct)
    (HasBookings-undone_all room vs (front ++ w ∷ []) b (of_room-append room front (w ∷ []) of_front (of_tail.0, tt)) of_tail.1
    (subst (λ (ws : List Write). HaveDistinctIds ws) (sym joined) distinct) ordered
    (subst (λ (ws : List Write). HasBookings room ws b) (sym joined) has)))

-- executing writes of the room gives them the places of its replay
places_of_bookings : (room : Text) (again front : List Write) (b : Rows) → AreOfRoom room again → HaveDistinctIds (front ++ again)
    → IsInOrder b → HasBookings room front b → map (λ u. u.place) (undo_rows_of b again) ≡ replay_among (after [] front) again
places_of_bookings room [] front b of_room distinct ordered has = λ i. []
places_of_bookings room (w ∷ vs) front b of_room distinct ordered has =
    let joined : (front ++ w ∷ []) ++ vs ≡ front ++ w ∷ vs = append_assoc front (w ∷ []) vs in
    let before = distinct_front front (w ∷ vs) distinct in
    let here = place_by_bookings room front b w of_room.0 ordered before has in
    let rest =
    places_of_bookings room vs (front ++ w ∷ []) (executed b w) of_room.1 (subst (λ (ws : List Write). HaveDistinctIds ws) (sym joined) distinct)
    (in_order-executed b w (place_by_rows b w) ordered)
    (HasBookings-executed room front b w of_room.0 ordered before (distinct_next front w vs distinct) has)
    ∙ ap (λ bs. replay_among bs vs) (after-append [] front (w ∷ [])) in
    λ t. here t ∷ rest t

HasBookings-executed_all : (room : Text) (again front : List Write) (b : Rows) → AreOfRoom room again → HaveDistinctIds (front ++ again)
    → IsInOrder b → HasBookings room front b → HasBookings room (front ++ again) (executed_all b again)
HasBookings-executed_all room [] front b of_room distinct ordered has = subst (λ (ws : List Write). HasBookings room ws b) (sym (append-nil front)) has
HasBookings-executed_all room (w ∷ vs) front b of_room distinct ordered has =
    let joined : (front ++ w ∷ []) ++ vs ≡ front ++ w ∷ vs = append_assoc front (w ∷ []) vs in
    subst (λ (ws : List Write). HasBookings room ws (executed_all (executed b w) vs)) joined
    (HasBookings-executed_all room vs (front ++ w ∷ []) (executed b w) of_room.1 (subst (λ (ws : List Write). HaveDistinctIds ws) (sym joined) distinct)
    (in_order-executed b w (place_by_rows b w) ordered)
    (HasBookings-executed room front b w of_room.0 ordered (distinct_front front (w ∷ vs) distinct) (distinct_next front w vs distinct) has))

-- ---- undoing the last ones, and executing others in their place

pub bookings-replayed : (room : Text) (front tail : List Write) (b : Rows) (us : List UndoRow) (again : List Write) → CanReplayBookings room front tail b us again
    → HasBookings room front (undone_all b us) × (map (λ u. u.place) (undo_rows_of (undone_all b us) again) ≡ replay_among (after [] front) again)
    × HasBookings room (front ++ again) (executed_all (undone_all b us) again)
bookings-replayed room front tail b us again can =
    let ordered = in_order-undone_all us b can.ordered in
    let has : HasBookings room front (undone_all b us) =
    subst (λ (rows : List UndoRow). HasBookings room front (undone_all b rows)) (sym can.rows)
    (HasBookings-undone_all room tail front b (of_room-front room front tail can.of_room) (of_room-back room front tail can.of_room) can.distinct can.ordered can.bookings) in (
      has,
      places_of_bookings room again front (undone_all b us) can.again_of_room can.again_distinct ordered has,
      HasBookings-executed_all room again front (undone_all b us) can.again_of_room can.again_distinct ordered has,
    )
