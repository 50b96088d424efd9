-- The place of a write and the cancel that took it back follow from the order of its room alone; and the latter is the Done cancel
-- with its id as target, wherever in the room that stands.
use Rattle.std.proofs.Common.{◌≡◌, refl, sym, ap, ◌∙◌, subst, Bool, true, false, cond, List, [], ◌∷◌, ◌++◌, map, inl, inr, Option, Some, None}
use Rattle.std.proofs.lemmas.Bool.{cond-false}
use Rattle.std.proofs.lemmas.List.Elements.{filter-append}
use Rattle.std.specs.Prelude.{option_map}
use Rattle.std.specs.Str.{bytes_eq}
use Rattle.mr_model.specs.Dropped.{Has}
use Rattle.mr_model.specs.Texts.{Text}
use Rattle.mr_model.specs.Writes.{Id, Write, id_of, same_id}
use Rattle.mr_model.specs.Replay.{Booking, booked_with}
use Rattle.mr_model.specs.Replica.{Replica, committed, tentative, order_of, IsReplica}
use Rattle.mr_model.specs.View.{Placed, Told, of_room, view_of, placed_of, cancels_it, cancel_of, tell, placed_in, place_or_logged, place_of, canceller_of}
use Rattle.mr_model.proofs.Members.{has_map, among_not, Distinct}
use Rattle.mr_model.proofs.PlacedInOrder.{placed_among, placed_id}
use Rattle.mr_model.proofs.CalendarsShow.{erased, cancel-erased, same_ids, whole-erased}
use Rattle.mr_model.proofs.PlacesOfOrder.{room_places, room-places, distinct_room}
use Rattle.mr_model.proofs.Runs.{IsRun, Free, not_now, free_with}
use Rattle.mr_model.proofs.RoomTold.{told_id, told_placed, known_told, told_of_room, room_run}

-- ---- the cancel, wherever it stands

-- what is not booked yet is not taken back: a Done cancel of a write stands behind it
pub told_whole : (bs : List Booking) (ps : List Placed) → IsRun bs ps → ((p : Placed) → Has p ps → Free (placed_id p) bs)
    → Distinct (map placed_id ps) → (t : Told) → Has t (tell ps) → t.cancelled_by ≡ cancel_of (told_id t) ps
told_whole bs [] r fresh d t h = absurd h
told_whole bs (p ∷ ps) r fresh d t (inl same) =
    ap (λ (x : Told). x.cancelled_by) same
    ∙ sym (cond-false (cancels_it (placed_id p) p.write.action p.place) (Some p) (cancel_of (placed_id p) ps) (not_now (placed_id p) bs p.write.action p.place r.0 (fresh p (inl refl))))
    ∙ ap (λ (x : Told). cancel_of (told_id x) (p ∷ ps)) (sym same)
told_whole bs (p ∷ ps) r fresh d t (inr h) =
    told_whole (booked_with bs p.write p.place) ps r.1 later d.1 t h
    ∙ sym (cond-false (cancels_it (told_id t) p.write.action p.place) (Some p) (cancel_of (told_id t) ps)
    (not_now (told_id t) bs p.write.action p.place r.0 (fresh (placed_of t) (inr (told_placed ps t h)))))
  where
    later : (q : Placed) → Has q ps → Free (placed_id q) (booked_with bs p.write p.place)
    later q g =
        free_with (placed_id q) bs p.write p.place (fresh q (inr g))
        (λ s. among_not (placed_id p) (map placed_id ps) d.0 (subst (λ i. Has i (map placed_id ps)) (sym s) (has_map placed_id q ps g)))

canceller-room : (r : Replica) (w : Write) → IsReplica r → Has w r.known → canceller_of r w ≡ option_map placed_id (cancel_of (id_of w) (room_places r w.room))
canceller-room r w h a =
    let (t, g, e) = known_told r w h a in
    let k = told_of_room r w.room t h g in
    ap (canceller_of r) (sym e) ∙ k.cancelled
    ∙ ap (option_map placed_id) (told_whole [] (room_places r w.room) (room_run r w.room) (λ q g b x s. x) (distinct_room r w.room h) t g)
    ∙ ap (λ (v : Write). option_map placed_id (cancel_of (id_of v) (room_places r w.room))) e

-- ---- the order of a room, without marks

abbrev pub order_list : Replica → Text → List Placed
order_list r room = placed_among false [] (of_room room (order_of r))

erased-room : (r : Replica) (room : Text) → map erased (room_places r room) ≡ order_list r room
erased-room r room =
    ap (map erased) (sym (room-places r room)) ∙ whole-erased (view_of r room)
    ∙ ap (placed_among false []) (sym (filter-append (λ w. bytes_eq w.room room) (committed r) (tentative r)))

placed-erased : (id : Id) (ps : List Placed) → place_or_logged (placed_in id (map erased ps)) ≡ place_or_logged (placed_in id ps)
placed-erased id [] = refl
placed-erased id (p ∷ ps) = go (same_id (id_of p.write) id) (placed-erased id ps)
  where
    go : (b : Bool) → place_or_logged (placed_in id (map erased ps)) ≡ place_or_logged (placed_in id ps)
        → place_or_logged (cond b (Some (erased p)) (placed_in id (map erased ps))) ≡ place_or_logged (cond b (Some p) (placed_in id ps))
    go true e = refl
    go false e = e

pub place-order : (r : Replica) (w : Write) → place_of r w ≡ place_or_logged (placed_in (id_of w) (order_list r w.room))
place-order r w =
    ap (λ ps. place_or_logged (placed_in (id_of w) ps)) (room-places r w.room) ∙ sym (placed-erased (id_of w) (room_places r w.room))
    ∙ ap (λ ps. place_or_logged (placed_in (id_of w) ps)) (erased-room r w.room)

pub canceller-order : (r : Replica) (w : Write) → IsReplica r → Has w r.known → canceller_of r w ≡ option_map placed_id (cancel_of (id_of w) (order_list r w.room))
canceller-order r w h a =
    canceller-room r w h a ∙ sym (ap (option_map placed_id) (cancel-erased (id_of w) (room_places r w.room)) ∙ same_ids (cancel_of (id_of w) (room_places r w.room)))
    ∙ ap (λ ps. option_map placed_id (cancel_of (id_of w) ps)) (erased-room r w.room)

-- so replicas with one order of the room agree on the cancels of its known writes
pub canceller-same : (a b : Replica) (w : Write) → IsReplica a → IsReplica b → Has w a.known → Has w b.known
    → of_room w.room (order_of a) ≡ of_room w.room (order_of b) → canceller_of a w ≡ canceller_of b w
canceller-same a b w ha hb ka kb e =
    canceller-order a w ha ka ∙ ap (λ ws. option_map placed_id (cancel_of (id_of w) (placed_among false [] ws))) e ∙ sym (canceller-order b w hb kb)

-- ---- lists of placed writes behind one another

abbrev pub or_else : Option Placed → Option Placed → Option Placed
or_else None q = q
or_else (Some p) q = Some p

pub cancel-append : (id : Id) (ps qs : List Placed) → cancel_of id (ps ++ qs) ≡ or_else (cancel_of id ps) (cancel_of id qs)
cancel-append id [] qs = refl
cancel-append id (p ∷ ps) qs = go (cancels_it id p.write.action p.place) (cancel-append id ps qs)
  where
    go : (b : Bool) → cancel_of id (ps ++ qs) ≡ or_else (cancel_of id ps) (cancel_of id qs) → cond b (Some p) (cancel_of id (ps ++ qs)) ≡ or_else (cond b (Some p) (cancel_of id ps)) (cancel_of id qs)
    go true e = refl
    go false e = e
