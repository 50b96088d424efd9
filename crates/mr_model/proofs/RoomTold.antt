-- What is told of a room is told of its known writes, each once: with its mark, its place, and the cancel that took it back.
use Rattle.std.proofs.Common.{◌≡◌, refl, sym, ap, ◌∙◌, subst, ◌≤◌, Bool, true, false, not, ◌&&◌, eqb, leb, List, []}
use Rattle.std.proofs.Common.{◌∷◌, length, map, ◌⊎◌, inl, inr, Option, Some, None, arith, leb-true, ne_eqb, eq-eqb}
use Rattle.std.proofs.lemmas.Bool.{false_from_ne_true, and_parts, cond-true, cond-false}
use Rattle.std.specs.Prelude.{option_map}
use Rattle.std.specs.List.{list_all}
use Rattle.mr_model.specs.Dropped.{Has}
use Rattle.mr_model.specs.Texts.{Text}
use Rattle.mr_model.specs.Slots.{Slot, is_slot}
use Rattle.mr_model.specs.Writes.{Id, Meeting, Write, id_of, same_id, choices_of, length_in, length_of, is_title, is_length, fits_day, greatest_alternatives, is_meeting, is_action, is_write}
use Rattle.mr_model.specs.Replay.{Place, slot_at}
use Rattle.mr_model.specs.Replica.{Replica, is_committed, IsReplica}
use Rattle.mr_model.specs.View.{Placed, Told, view_of, placed_of, cancels_it, cancel_of, tell, whole_list, told_of, place_of, canceller_in, canceller_of}
use Rattle.mr_model.specs.Tables.{seq_of}
use Rattle.mr_model.proofs.Members.{has_map, find_has, same_id-true, same_id_refl, among_has, among_not, Distinct}
use Rattle.mr_model.proofs.PlacedInOrder.{placed_id}
use Rattle.mr_model.proofs.PlacesOfOrder.{room_places, room-places, distinct_room, placed, room_placed, placed_room}
use Rattle.mr_model.proofs.RowsById.{action_within, seq_not, seq_has}
use Rattle.mr_model.proofs.Runs.{IsRun, run-whole, cancelled_booked, Went, took, failed, did, missed, run_went}

abbrev pub told_id : Told → Id
told_id t = id_of t.write

pub told_placed : (ps : List Placed) (t : Told) → Has t (tell ps) → Has (placed_of t) ps
told_placed [] t h = absurd h
told_placed (p ∷ ps) t (inl e) = inl (ap placed_of e)
told_placed (p ∷ ps) t (inr h) = inr (told_placed ps t h)

pub placed_told : (ps : List Placed) (p : Placed) → Has p ps → (t : Told) × Has t (tell ps) × (placed_of t ≡ p)
placed_told [] p h = absurd h
placed_told (q ∷ ps) p (inl e) = (record { write = q.write; is_committed = q.is_committed; place = q.place; cancelled_by = cancel_of (id_of q.write) ps }, inl refl, sym e)
placed_told (q ∷ ps) p (inr h) = let (t, g, e) = placed_told ps p h in (t, inr g, e)

-- what took a booking back is a cancel among them
pub told_cancel : (ps : List Placed) (t : Told) (c : Placed) → Has t (tell ps) → t.cancelled_by ≡ Some c → Has c ps × (cancels_it (told_id t) c.write.action c.place ≡ true)
told_cancel [] t c h e = absurd h
told_cancel (p ∷ ps) t c (inl s) e =
    let f = find_has (λ q. cancels_it (id_of p.write) q.write.action q.place) c ps (sym (ap (λ (x : Told). x.cancelled_by) s) ∙ e) in
    (inr f.0, ap (λ (x : Told). cancels_it (told_id x) c.write.action c.place) s ∙ f.1)
told_cancel (p ∷ ps) t c (inr h) e = let f = told_cancel ps t c h e in (inr f.0, f.1)

pub told-ids : (ps : List Placed) → map told_id (tell ps) ≡ map placed_id ps
told-ids [] = refl
told-ids (p ∷ ps) = ap (λ (is : List Id). placed_id p ∷ is) (told-ids ps)

pub told_here : (t : Told) (ts : List Told) → Distinct (map told_id ts) → Has t ts → told_of (told_id t) ts ≡ Some t
told_here t [] d h = absurd h
told_here t (x ∷ xs) d (inl e) =
    cond-true (same_id (told_id x) (told_id t)) (Some x) (told_of (told_id t) xs) (subst (λ y. same_id (told_id y) (told_id t) ≡ true) e (same_id_refl (told_id t))) ∙ ap Some (sym e)
told_here t (x ∷ xs) d (inr h) =
    cond-false (same_id (told_id x) (told_id t)) (Some x) (told_of (told_id t) xs)
    (false_from_ne_true (same_id (told_id x) (told_id t))
    (λ e. among_not (told_id x) (map told_id xs) d.0 (subst (λ i. Has i (map told_id xs)) (sym (same_id-true (told_id x) (told_id t) e)) (has_map told_id t xs h))))
    ∙ told_here t xs d.1 h

abbrev pub room_list : Replica → Text → List Told
room_list r room = tell (room_places r room)

pub room-list : (r : Replica) (room : Text) → whole_list (view_of r room) ≡ room_list r room
room-list r room = ap tell (room-places r room)

-- the id of the cancel that took a told write back
abbrev pub canceller : Told → Option Id
canceller t = option_map (λ c. id_of c.write) t.cancelled_by

-- all that is to be known of what is told of a room
pub record IsToldOf (r : Replica) (room : Text) (t : Told) : Type 0 where
  pub known : Has t.write r.known
  pub in_room : t.write.room ≡ room
  pub mark : t.is_committed ≡ is_committed r (told_id t)
  pub place : place_of r t.write ≡ t.place
  pub cancelled : canceller_of r t.write ≡ canceller t
  pub is_told : told_of (told_id t) (whole_list (view_of r t.write.room)) ≡ Some t
  pub went : Went t.write t.place
  pub booked : (c : Placed) → t.cancelled_by ≡ Some c → (s : Slot) × (slot_at t.write t.place ≡ Some s)

pub room_run : (r : Replica) (room : Text) → IsRun [] (room_places r room)
room_run r room = subst (IsRun []) (room-places r room) (run-whole (view_of r room))

pub told_of_room : (r : Replica) (room : Text) (t : Told) → IsReplica r → Has t (room_list r room) → IsToldOf r room t
told_of_room r room t h a =
    let p = told_placed (room_places r room) t a in
    let (e, k, m) = room_placed r room (placed_of t) h p in
    let run = room_run r room in
    let found : told_of (told_id t) (whole_list (view_of r t.write.room)) ≡ Some t =
    ap (λ x. told_of (told_id t) (whole_list (view_of r x))) m ∙ ap (told_of (told_id t)) (room-list r room)
    ∙ told_here t (room_list r room) (subst Distinct (sym (told-ids (room_places r room))) (distinct_room r room h)) a in
    record {
      known = k;
      in_room = m;
      mark = ap (λ (x : Placed). x.is_committed) e;
      place = sym (ap (λ (x : Placed). x.place) e);
      cancelled = ap canceller_in found;
      is_told = found;
      went = run_went [] (room_places r room) (placed_of t) run p;
      booked = λ c f. cancelled_booked [] (room_places r room) run (λ q g b x s. x) (distinct_room r room h) t a c f;
    }

-- a known write is told of in its room
pub known_told : (r : Replica) (w : Write) → IsReplica r → Has w r.known → (t : Told) × Has t (room_list r w.room) × (t.write ≡ w)
known_told r w h a =
    let (t, i, f) = placed_told (room_places r w.room) (placed r w) (placed_room r w h a) in
    (t, i, ap (λ (x : Placed). x.write) f)

pub told_in_room : (r : Replica) (room : Text) (w : Write) → IsReplica r → Has w r.known → w.room ≡ room → (t : Told) × Has t (room_list r room) × (t.write ≡ w)
told_in_room r room w h a e = subst (λ x. (t : Told) × Has t (room_list r x) × (t.write ≡ w)) e (known_told r w h a)

-- where a known write went
pub known_went : (r : Replica) (w : Write) → IsReplica r → Has w r.known → Went w (place_of r w)
known_went r w h a =
    let (t, g, e) = known_told r w h a in
    let k = told_of_room r w.room t h g in
    subst (λ v. Went v (place_of r v)) e (subst (λ p. Went t.write p) (sym k.place) k.went)

-- a write has the mark where its number is not 0
pub committed-seq : (r : Replica) (w : Write) → is_committed r (id_of w) ≡ not (eqb (seq_of r w) 0)
committed-seq r w = go (is_committed r (id_of w)) refl
  where
    go : (b : Bool) → is_committed r (id_of w) ≡ b → is_committed r (id_of w) ≡ not (eqb (seq_of r w) 0)
    go true e = e ∙ sym (ap not (ne_eqb (seq_of r w) 0 (λ z. let l : 1 ≤ seq_of r w = seq_has 1 r.commits (id_of w) (among_has (id_of w) r.commits e) in omega (arith, l, z))))
    go false e = e ∙ sym (ap not (eq-eqb (seq_of r w) 0 (seq_not 1 r.commits (id_of w) (among_not (id_of w) r.commits e))))

meeting_long : (m : Meeting) → is_meeting m ≡ true → 1 ≤ m.length
meeting_long m h =
    let a = and_parts (is_title m.title && is_length m.length && leb (length m.alternatives) greatest_alternatives) (list_all (λ s. is_slot s && fits_day m.length s) (choices_of m)) h in
    let b = and_parts (is_title m.title && is_length m.length) (leb (length m.alternatives) greatest_alternatives) a.0 in
    let c = and_parts (is_title m.title) (is_length m.length) b.0 in
    leb-true 1 m.length (and_parts (leb 1 m.length) (leb m.length 1440) c.1).0

-- a booking has a length, and only a booking takes a slot
pub long_or_none : (w : Write) (p : Place) → is_write w ≡ true → Went w p → (1 ≤ length_of w) ⊎ (slot_at w p ≡ None)
long_or_none w p ok (took m k s f at o) =
    let good : is_meeting m ≡ true = sym (ap is_action f) ∙ action_within w ok in
    inl (subst (λ x. 1 ≤ length_in x) (sym f) (meeting_long m good))
long_or_none w p ok (failed m f at) = inr (ap (slot_at w) at)
long_or_none w p ok (did t f at) = inr (ap (slot_at w) at)
long_or_none w p ok (missed t f at) = inr (ap (slot_at w) at)
